-- What a look-up answers, way out by way out.
pub mod LookingUp
