-- What the check of a pass keeps.
pub mod Passes
