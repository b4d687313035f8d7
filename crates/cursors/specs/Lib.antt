-- What contracts of several crates cite beside crate format's definitions.
pub mod Cursors
