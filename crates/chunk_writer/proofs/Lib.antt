-- What the proofs of this crate share: pieces that are written at cursors, and the fields of variable bytes.
pub mod Placing
pub mod NameFields
