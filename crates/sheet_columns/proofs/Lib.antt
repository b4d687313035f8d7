-- What the proofs of this crate share: the arms of a match on a kind.
pub mod Arms
