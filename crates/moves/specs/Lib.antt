-- What a byte does to its field, as the code answers it.
pub mod Moves
