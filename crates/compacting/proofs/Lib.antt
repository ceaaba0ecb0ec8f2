-- Laws of what specs/ defines.
pub mod Copied
pub mod Fresh
pub mod Same
pub mod Theorem
