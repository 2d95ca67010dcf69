-- What each exported function gives and leaves.
pub mod Result
pub mod Export
pub mod ClientDoor
pub mod ServerDoor
pub mod CodecDoor
