-- What the promises of the comparing crates cite beside crate format's definitions.
pub mod Orders
