-- Laws of what specs/ defines.
pub mod Links
pub mod Steps
