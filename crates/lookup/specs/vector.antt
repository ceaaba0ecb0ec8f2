-- A vector and a component of a file, by what the search has found.
pub mod Value
