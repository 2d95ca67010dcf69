-- The rows, proved.
pub mod Opened
pub mod RowsHold
