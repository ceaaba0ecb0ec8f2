-- The vector writer: what it refuses and accepts.
pub mod RefusalLaws
