-- A record of either side as bytes, what fits them, and what canonical bytes are.
pub mod Parts
pub mod Held
pub mod Layout
pub mod Fits
pub mod Canonical
