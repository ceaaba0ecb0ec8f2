-- Laws of what specs/ defines.
pub mod WalkLaws
pub mod SumLaws
pub mod Turn
