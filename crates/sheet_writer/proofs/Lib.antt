-- Laws of the columns: their parts, the ones of their validity, and where the cursors stand.
pub mod Ones
pub mod Parts
pub mod Stand
