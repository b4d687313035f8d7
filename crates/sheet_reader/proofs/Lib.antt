-- What the proof of the walk shares: what holds at the head of its loop, and what each way out of a turn gives. And the slots of the
-- checked columns, for the crates that read them.
pub mod SheetTurns
pub mod Values
