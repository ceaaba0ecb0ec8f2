-- VEC_SEG payloads: what is sound, what is found in one, and what the one-block writer writes.
pub mod Payload
pub mod Find
pub mod Writer
pub mod Component
pub mod Vector
pub mod BlockGood
