-- What is selected, and the loop that does it.
pub mod Selected
