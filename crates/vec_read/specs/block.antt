-- What the check of a block answers.
pub mod Block
