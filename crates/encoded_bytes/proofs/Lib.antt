-- What encode stores in lent bytes.
pub mod Stores
