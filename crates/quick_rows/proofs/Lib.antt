-- The laws that the proofs of the walks over rows cite.
pub mod Taken
pub mod Turns
pub mod Passing
