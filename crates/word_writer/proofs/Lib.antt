-- What the proofs of this crate share: the fields of numbers.
pub mod Keyed
