-- What the vector bodies of a batch are refused with, body by body.
pub mod Vectors
