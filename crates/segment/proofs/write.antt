-- The steps of writing a segment.
pub mod Laid
