-- What the proofs of the functions share.
pub mod WordTurns
