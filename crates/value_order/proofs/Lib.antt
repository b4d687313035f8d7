-- What the proofs on two slots cite.
pub mod Values
