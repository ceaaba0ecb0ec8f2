-- Laws of what specs/ defines.
pub mod At
pub mod Lying
pub mod OpeningLaws
pub mod EntryOut
pub mod OpenOut
pub mod SizedLaws
pub mod PayloadLaws
pub mod Made
pub mod FormerLaws
