-- What the contracts of this crate cite beside crate format's definitions.
pub mod Answers
