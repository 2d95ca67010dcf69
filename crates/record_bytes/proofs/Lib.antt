-- What holds of a record's parts as bytes, and what keeps their widths.
pub mod ByteLaws
pub mod Keeping
pub mod NumberBytes
pub mod NumberLaws
pub mod HeldLaws
pub mod Laying
pub mod PartLaws
pub mod Places
pub mod SlotLaws
pub mod FieldsBack
pub mod Reading
pub mod SlotReading
pub mod FieldsAgain
pub mod Alike
