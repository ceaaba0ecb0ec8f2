-- ?
pub mod Numbers
