-- What the proofs of the look-up and of its C entries share.
pub mod LookUps
