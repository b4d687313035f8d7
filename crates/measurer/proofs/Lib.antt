-- How each way out of measuring follows.
pub mod Batches
