-- Answers by number and values, and what a writer answers and leaves.
pub mod Answer
pub mod Write
pub mod limits
