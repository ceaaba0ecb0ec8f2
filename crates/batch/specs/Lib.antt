-- The batch of bodies that an append is given.
pub mod Form
pub mod Lines
