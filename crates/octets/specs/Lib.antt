-- Lists of bytes: what is laid over a buffer, zero bytes, equal bytes, rounding to 64, parts.
pub mod Over
pub mod Round
pub mod Zero
pub mod le
pub mod text
pub mod numbers
pub mod Options
