-- What the proofs of the functions share.
pub mod Reading
pub mod Packing
