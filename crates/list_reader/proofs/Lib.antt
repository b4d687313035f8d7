-- What the proofs of the list's readers share: what a list that was read is like; what holds at the head of the loop over descriptions
-- in codes and columns; and that of the loop over list bytes.
pub mod Schemas
pub mod Judged
pub mod ListTurns
