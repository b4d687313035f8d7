-- What the proofs of the functions share.
pub mod Taking
pub mod Words
