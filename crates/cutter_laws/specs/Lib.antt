-- What is proved of the row cutter, stated.
pub mod Calls
pub mod Streams
