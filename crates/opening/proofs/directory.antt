-- Laws of what specs/ defines.
pub mod EntryLemmas
pub mod EntryLaws
