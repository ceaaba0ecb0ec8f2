-- The lister: what it prints about a file; and the laws by which its lines are written.
pub mod Lines
