-- Laws that the proofs of the judging functions use.
pub mod KindLaws
pub mod EntryLaws
