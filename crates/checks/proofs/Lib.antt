-- How each way out of `begin` follows, and checks grouped either way.
pub mod Begun
