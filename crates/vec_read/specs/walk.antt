-- What the walk over the blocks answers, block by block.
pub mod Walk
pub mod Sum
