-- Laws of the runs, which the writers and the readers of fields cite too.
pub mod Direction
pub mod Copying
pub mod Written
pub mod Parts
pub mod Twice
