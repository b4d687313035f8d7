-- What the demand rests on.
pub mod Anywhere
