-- A vector's bytes, and a component by its kind.
pub mod Vector
