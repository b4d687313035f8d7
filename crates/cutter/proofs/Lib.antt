-- What the row cutter's functions rest on.
pub mod Entering
