-- Laws of what specs/ defines.
pub mod Worked
pub mod Xor
pub mod Linear
pub mod Ahead
pub mod Words
pub mod LanesLaws
pub mod ExtendLaws
pub mod Product
pub mod Sparse
pub mod Span
pub mod WindowLaws
pub mod Start
pub mod Chunks
pub mod RestLaws
