-- What the steps of taking an id map apart answer.
pub mod Head
