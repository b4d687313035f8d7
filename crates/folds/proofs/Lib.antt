-- Laws of folding, over the count of bytes.
pub mod Folds
