-- What the directory answers for an index, and the ways to it.
pub mod Entry
