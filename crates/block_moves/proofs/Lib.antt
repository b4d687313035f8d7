-- The marks of a block, and its end byte.
pub mod Marks
