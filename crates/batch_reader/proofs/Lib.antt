-- The laws that the proofs of the check of a batch cite.
pub mod FrameSums
pub mod Batches
