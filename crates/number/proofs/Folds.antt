-- Passed on from crate `folds`: the bytes of a folded float.
pub use Rattle.folds.proofs.Folds.{folded_spelled, folded_same}
