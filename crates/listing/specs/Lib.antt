pub mod entries
pub mod line
pub mod text
