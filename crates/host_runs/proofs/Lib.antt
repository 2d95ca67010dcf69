-- The runs of crate runs, at the door.
pub mod AtTheDoor
pub mod PduOctets
pub mod LossyFits
pub mod StopFits
pub mod HostRunsHold
pub mod HostStopsHold
