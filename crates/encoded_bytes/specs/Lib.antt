-- What encode does with the lent bytes that it uses.
pub mod Stored
