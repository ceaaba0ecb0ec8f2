-- Laws of what specs/ defines.
pub mod Ends
pub mod Proved
