-- Getting room back: what compaction answers and writes, and what follows for those who read and append.
pub mod Compact
pub mod Promise
