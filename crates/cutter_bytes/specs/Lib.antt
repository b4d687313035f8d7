-- What the cutter's calls promise on lent bytes.
pub mod Calls
