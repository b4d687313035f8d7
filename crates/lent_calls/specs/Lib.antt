-- What the C entries do with the lent bytes that they use.
pub mod Stored
