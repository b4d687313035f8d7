-- What the moves in a value rest on.
pub mod Arms
