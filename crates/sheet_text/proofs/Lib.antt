-- The law that the proof of a sheet's text cites.
pub mod SheetLines
