-- What the vector writer writes: it is sound, each id is found in it, and each vector is read back.
pub mod Shape
pub mod Vector
