-- What the promise of this crate cites beside crate format's definitions.
pub mod SheetText
