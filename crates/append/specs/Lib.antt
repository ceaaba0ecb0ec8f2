-- Appending: the ways out of the function, the entries read and their states after retirement.
pub mod Entries
pub mod commit
pub mod retire
pub mod vectors
pub mod form
