-- Laws of what specs/ defines.
pub mod Answer
pub mod Base
pub mod CommitLaws
pub mod Written
