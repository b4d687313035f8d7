-- What is demanded of rows from a pipe.
pub mod Anywhere
