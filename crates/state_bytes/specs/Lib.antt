-- A state as bytes.
pub mod Written
