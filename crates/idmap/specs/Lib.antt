-- Id maps: what is written, what is read, and that the one is the other.
pub mod Encode
pub mod Decode
pub mod DecodeLaws
