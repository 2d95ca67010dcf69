-- Laws of the door.
pub mod CodecReturns
pub mod Exact
