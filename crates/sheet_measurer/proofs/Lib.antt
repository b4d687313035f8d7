-- What the proof of the walk cites: the total of a sheet by the facts of its columns.
pub mod Totals
