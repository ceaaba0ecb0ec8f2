-- Laws of what specs/ defines.
pub mod Marks
pub mod Held
pub mod Turn
pub mod Members
pub mod Number
