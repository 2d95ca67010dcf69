-- The client's record as bytes and back.
pub mod StateLaws
pub mod RoundTrip
pub mod Alike
