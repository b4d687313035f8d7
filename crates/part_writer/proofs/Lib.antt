-- What the proofs of the functions share.
pub mod Parts
pub mod Words
