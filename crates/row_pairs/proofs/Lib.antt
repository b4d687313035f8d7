-- What the proofs on pairs of rows share.
pub mod Pairs
