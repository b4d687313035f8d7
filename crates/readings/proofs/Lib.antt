-- The theorems: a list read once, and what its descriptions are accepted as.
pub mod Back
pub mod Codes
pub mod Spelled
pub mod Refused
pub mod Accepted
pub mod Made
pub mod BothWays
pub mod Promised
