-- Laws of what specs/ defines.
pub mod MapBytes
pub mod Shape
pub mod Sound
pub mod Found
pub mod Vector
