-- Laws of what specs/ defines.
pub mod LineLaws
pub mod BlockLaws
pub mod CheckLaws
pub mod FindLaws
pub mod Laid
pub mod WriterLaws
