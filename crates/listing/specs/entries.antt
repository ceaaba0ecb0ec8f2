-- The lines of a directory, entry by entry.
pub mod Entries
