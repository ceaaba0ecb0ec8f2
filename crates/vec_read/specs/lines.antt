-- What the check of the block directory answers, and how long the list is that takes the ids of each block.
pub mod Directory
pub mod Counts
