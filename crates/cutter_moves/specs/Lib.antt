-- What a byte may count on.
pub mod Moves
