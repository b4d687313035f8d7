-- How each way out of encoding follows.
pub mod Encoding
