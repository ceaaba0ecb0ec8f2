-- A file compacted, a batch appended to the fresh one, and that opened.
pub mod Anew
