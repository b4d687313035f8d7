-- What the walks over a piece promise.
pub mod Walks
