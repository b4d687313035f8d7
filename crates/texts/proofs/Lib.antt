-- Laws of the program's text: pieces one after another, rows, numbers and the refused line.
pub mod Written
pub mod Decimal
pub mod Rows
pub mod Refused
