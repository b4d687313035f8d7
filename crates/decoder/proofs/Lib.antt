-- How each way out of decoding follows.
pub mod Decoding
