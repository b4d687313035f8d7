-- Laws of the C entries that stand here.
pub mod Streaming
