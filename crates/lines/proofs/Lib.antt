-- The laws of lines, of numbers as text and of messages.
pub mod LineLaws
pub mod MessageLaws
pub mod TextLaws
