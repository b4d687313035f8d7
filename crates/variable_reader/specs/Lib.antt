-- What the walks over a variable field answer, in terms of crate format's definitions.
pub mod Counted
