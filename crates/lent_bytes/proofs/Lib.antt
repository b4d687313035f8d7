-- Numbers in bytes, stored and read.
pub mod NumberBytes
