-- What the moves rest on.
pub mod Arms
