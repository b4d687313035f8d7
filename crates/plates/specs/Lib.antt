-- What the first k fields of a row say, beside crate format's definitions.
pub mod Prefix
pub mod Found
