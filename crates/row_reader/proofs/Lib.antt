-- The laws that the proof of the walk cites.
pub mod Turns
