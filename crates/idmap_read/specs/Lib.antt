-- The ways out of the id-map reader.
pub mod delta
