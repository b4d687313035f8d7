-- What a spot in a null says.
pub mod Nulls
