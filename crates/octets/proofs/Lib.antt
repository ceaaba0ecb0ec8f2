-- Laws of what specs/ defines.
pub mod Parts
pub mod OverLaws
pub mod RoundLaws
pub mod ZeroLaws
