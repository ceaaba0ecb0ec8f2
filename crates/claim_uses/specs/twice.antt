-- Two batches appended and the file opened, by the model.
pub mod Twice
