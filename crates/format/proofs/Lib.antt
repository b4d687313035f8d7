-- Small cases of every definition, computed.
pub mod ListExamples
pub mod DescribedExamples
pub mod SheetExamples
pub mod RowExamples
pub mod EntryExamples
pub mod JoinExamples
pub mod LookupExamples
pub mod CompareExamples
pub mod CutterExamples
