-- Laws of what specs/ defines.
pub mod ReadLaws
pub mod Refusal
pub mod WriteLaws
pub mod Trip
