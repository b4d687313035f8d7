-- The law that the proof of the check of offsets cites.
pub mod Falls
