-- Laws that the proofs of the decoding functions use.
pub mod WordLaws
pub mod DecodedLaws
