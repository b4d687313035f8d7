-- Laws of numbers and their bytes, over the count of bytes.
pub mod Words
pub mod Tops
