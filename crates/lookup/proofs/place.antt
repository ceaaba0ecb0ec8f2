-- What a place of a payload promises, and the search for it.
pub mod Find
