-- All rows of one plate: the theorems on the first k fields of rows.
pub mod PrefixRun
pub mod Fronts
pub mod FirstColumns
pub mod FirstFields
pub mod SideBySide
pub mod Plates
pub mod FoundRows
