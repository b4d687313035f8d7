-- What the writers of the program's text promise.
pub mod Printed
