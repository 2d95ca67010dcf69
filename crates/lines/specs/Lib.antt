-- What the functions of the crate give, and what they leave in the memory lent to them.
pub mod Line
pub mod Message
pub mod Text
