-- What the proofs of the writers share.
pub mod Writing
