-- Appending: what it answers, what it writes, and what follows for opening.
pub mod Retire
pub mod Append
