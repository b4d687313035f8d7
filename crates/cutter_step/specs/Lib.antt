-- What a byte does to a cutter's state, as the code answers it.
pub mod Places
