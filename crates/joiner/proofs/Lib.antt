-- Laws of sorted entries, which the theorems on the joined order cite too; and what the merge keeps.
pub mod Sorting
pub mod Turns
