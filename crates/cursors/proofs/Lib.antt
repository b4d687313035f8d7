-- A field that can be read, cursors that move on, and pieces written one after the other.
pub mod Lead
pub mod Maps
pub mod Wrotes
pub mod Moving
