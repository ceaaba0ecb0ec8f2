-- A vector read out of a file whose last append was cut short.
pub mod CutRead
