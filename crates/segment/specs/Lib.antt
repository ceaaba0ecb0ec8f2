-- Segments: the header's definitions, the laws that a chain of segments asks for, what is written and that it is read back; a step from a place,
-- the chain walked by steps, and the search from the file's end.
pub mod Chained
pub mod Header
pub mod Laws
pub mod Search
pub mod Step
pub mod Written
pub mod chain
pub mod index
