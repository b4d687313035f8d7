-- Passed on from crate `words`: the top of a word.
pub use Rattle.words.proofs.Tops.{drop_take, word_top}
