-- The tests of the two searches, the place where a test turns, and what the loop keeps.
pub mod Fronts
pub mod Places
pub mod Narrowing
pub mod Sharing
