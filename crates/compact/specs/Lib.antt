-- A fresh file of a file's live segments: what the function's parts answer and leave, with the laws of their ways out.
pub mod select
pub mod copies
