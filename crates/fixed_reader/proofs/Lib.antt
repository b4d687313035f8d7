-- What the proofs of the functions share.
pub mod Scan
pub mod Reading
pub mod Standing
pub mod Beside
