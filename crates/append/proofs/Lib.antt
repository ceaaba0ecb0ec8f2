-- Laws of what specs/ defines.
pub mod Entries
pub mod Retiring
pub mod Begins
pub mod AppendLaws
