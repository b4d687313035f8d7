-- The order of keys, which the theorems on the order of rows cite too; and what the proofs of the comparing crates share.
pub mod KeyLaws
pub mod KeyOrder
pub mod Found
pub mod Spelled
pub mod Intervals
pub mod WordSteps
