-- What the rule's functions promise of each other.
pub mod Standing
pub mod Sums
