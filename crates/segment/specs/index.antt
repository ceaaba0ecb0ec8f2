-- The offsets of a chain's first links, and the search from the file's end that goes by them.
pub mod Numbered
pub mod Offsets
