-- The laws of the crates beneath that the crates above cite.
pub mod Words
pub mod Tops
pub mod Folds
