-- What the walk over a batch of rows answers.
pub mod Walk
