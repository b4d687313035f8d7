-- What the check of a batch answers.
pub mod Batch
