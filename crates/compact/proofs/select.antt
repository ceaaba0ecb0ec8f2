-- Laws of what specs/ defines.
pub mod Passed
pub mod SelectLaws
