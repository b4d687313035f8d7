-- What the row cutter's functions promise of each other.
pub mod Calls
