-- What the walks over a piece rest on.
pub mod Walking
pub mod Fields
