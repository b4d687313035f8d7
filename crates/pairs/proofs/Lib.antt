-- What the proofs of this crate share: the ways out of comparing pairs, and one pair from many.
pub mod Comparing
