-- Laws of what specs/ defines.
pub mod Laws
pub mod Placed
pub mod ReadFrom
pub mod ComponentLaws
pub mod PartLaws
pub mod LiveLaws
pub mod ListingWorked
