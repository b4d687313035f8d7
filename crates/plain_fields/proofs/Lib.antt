-- The laws that the proofs of plain fields cite.
pub mod Arms
pub mod Stored
