-- The bench rows of document 01, and what the library's definitions give for them.
pub mod Datagrams
pub mod Records
pub mod Cases
pub mod Rows
