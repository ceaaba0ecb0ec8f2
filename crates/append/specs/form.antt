-- What the form of a batch is refused with.
pub mod Number
