-- Laws of the walks over a variable field.
pub mod Padding
pub mod Reading
pub mod Counting
pub mod Taking
pub mod Twice
