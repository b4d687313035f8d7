-- What a byte's step rests on.
pub mod Stepping
