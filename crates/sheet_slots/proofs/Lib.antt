-- The values of a column that passes, for the crates that read them.
pub mod Values
