-- Passed on from crate `words`: a number and its bytes.
pub use Rattle.words.proofs.Words.{spelled, byte, read_back, read_fits, byte_back, byte_set}
