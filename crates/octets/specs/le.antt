-- Little-endian numbers.
pub mod Le
