-- Laws of the program's text: the output, case by case, and that what is promised decides it.
pub mod Output
pub mod Unique
