-- What the proofs of the calls on lent bytes and of the C entries share.
pub mod Enough
pub mod Entries
pub mod ListRead
pub mod Comparing
