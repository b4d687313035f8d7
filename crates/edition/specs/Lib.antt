-- Which edition the C entries are.
pub mod Version
