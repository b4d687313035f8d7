-- The loop over columns, and the loop over pairs.
pub mod Columns
