-- The laws by which the whole text about a file is written.
pub mod Whole
