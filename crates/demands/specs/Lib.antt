-- What the demands say beside crate format's definitions.
pub mod Table
pub mod Raw
pub mod RoundTrip
pub mod Order
pub mod Slices
pub mod Folded
pub mod Place
pub mod JoinOrder
