-- Laws of what specs/ defines.
pub mod Component
pub mod Bytes
pub mod Vector
