-- The fresh file by the old one and offsets, and the steps of writing it.
pub mod Copies
