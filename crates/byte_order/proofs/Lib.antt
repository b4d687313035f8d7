-- What the library says of an order, and two byte strings that are alike so far.
pub mod Answered
pub mod Alike
