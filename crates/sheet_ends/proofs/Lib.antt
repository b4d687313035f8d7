-- What the proofs of this crate share: for each loop what holds at its head, and what each way out of a turn gives.
pub mod EndTurns
