-- What the proofs of the functions share.
pub mod ByteKinds
pub mod Storing
