-- Join on lent bytes.
pub mod Order
