-- The server's record as bytes, what fits them, and what canonical bytes are.
pub mod Layout
pub mod Fits
pub mod Canonical
