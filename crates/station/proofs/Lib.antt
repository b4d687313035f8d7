-- How each way out of `join` follows.
pub mod Joining
