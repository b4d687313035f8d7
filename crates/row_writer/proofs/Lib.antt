-- What the proofs of this crate share: the fields of a row by the facts of its columns, where rows begin, rows side by side, and what holds
-- at the heads of the loops.
pub mod Fields
pub mod Summing
pub mod Side
pub mod Chunk
pub mod Final
