-- Laws of lists, bytes, checks and appending, and the sorts of kinds.
pub mod Compare
pub mod Bytes
pub mod LowBytes
pub mod Lists
pub mod Checks
pub mod Append
pub mod Sorts
