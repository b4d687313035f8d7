-- What the theorems on reading a list once say beside crate format's definitions.
pub mod Readings
