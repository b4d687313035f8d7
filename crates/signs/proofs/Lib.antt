-- Laws of keys, of the top bit and of the bits below it, over the count of bytes.
pub mod Keys
pub mod Signed
