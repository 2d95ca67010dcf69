-- The runs are computed to their end.
pub mod Opened
pub mod Stories
pub mod Fragments
pub mod ClientTurns
pub mod ServerTurns
pub mod Sides
pub mod Lossy
pub mod Twice
pub mod Stopped
pub mod RunsHold
