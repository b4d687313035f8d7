-- What the cutter's calls on lent bytes rest on.
pub mod Parting
pub mod Entering
