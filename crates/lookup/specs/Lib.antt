pub mod in_segment
pub mod vector
