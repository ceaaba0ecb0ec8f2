-- The last part of an append: what it answers and writes, what it knows of the file, and its ways out.
pub mod Answer
pub mod Base
pub mod Commit
