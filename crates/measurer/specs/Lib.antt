-- What measuring promises encoding.
pub mod Measuring
