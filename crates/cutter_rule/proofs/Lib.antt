-- What the rule's functions rest on.
pub mod Rules
pub mod Summing
