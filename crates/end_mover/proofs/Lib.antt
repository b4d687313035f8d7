-- What the proof of the function shares.
pub mod Running
pub mod OnePass
