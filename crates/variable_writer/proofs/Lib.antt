-- Laws of the writing of a variable field.
pub mod Padded
pub mod Even
pub mod Writing
pub mod Whole
