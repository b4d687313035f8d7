-- What holds at the head of the loop over codes, and what each way out of a turn gives.
pub mod CodeTurns
