-- What opening answers, and what it knows of the directory.
pub mod FileManifest
pub mod Indexed
pub mod directory
