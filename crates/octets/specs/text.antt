-- Text as bytes: words in ASCII and numbers in decimal; and a text that is written piece by piece.
pub mod Text
pub mod Written
