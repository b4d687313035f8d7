-- What a call uses of the lent offsets.
pub mod Offsets
pub mod Entries
