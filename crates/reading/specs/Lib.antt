-- Reading by id: which segments are live, in which order they are searched, and what each reading call answers.
pub mod Live
pub mod Answers
pub mod Component
pub mod Part
pub mod PartLaws
pub mod Listing
pub mod Read
