-- What the promises of this crate cite beside crate format's definitions.
pub mod Steps
