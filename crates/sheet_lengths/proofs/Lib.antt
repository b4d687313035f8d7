-- What the proofs of this crate share: the lengths of fields of variable bytes and of fixed ones.
pub mod Arms
pub mod Measures
