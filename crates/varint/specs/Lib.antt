-- Unsigned LEB128 in its shortest form.
pub mod Varint
