pub mod payload
pub mod states
