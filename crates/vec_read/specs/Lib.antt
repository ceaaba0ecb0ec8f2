-- A vector by its id out of a payload.
pub mod block
pub mod lines
pub mod values
pub mod walk
