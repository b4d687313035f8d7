-- What the proofs of the join and of its C entry share.
pub mod Joins
