-- Laws of what specs/ defines.
pub mod Chained
pub mod Laws
pub mod Readback
pub mod Rewritten
pub mod Search
pub mod StepLaws
pub mod Tests
pub mod WrittenLaws
pub mod HeaderLaws
