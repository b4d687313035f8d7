-- Codes, written one after the other.
pub mod CodesPut
