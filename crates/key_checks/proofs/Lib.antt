-- What the checks of a look-up answer.
pub mod Checking
