-- What holds at the head of the loop over columns, and what each way out of a turn gives.
pub mod ColumnTurns
