-- Laws of a state's bytes.
pub mod Writing
pub mod Reading
