-- Laws of packed bits: a byte put together, flags packed and read back, the digits of a byte, ones and nulls, the first clear bit.
pub mod Flags
pub mod Bits
pub mod Digits
pub mod Nulls
pub mod Clear
