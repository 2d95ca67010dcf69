-- Lists of events that keep every premise of the theorem.
pub mod Runs
pub mod Stops
