-- Laws of what specs/ defines.
pub mod Directory
pub mod Counts
