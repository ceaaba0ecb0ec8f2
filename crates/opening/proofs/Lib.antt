-- Laws of what specs/ defines.
pub mod CandidateLaws
pub mod Opened
pub mod FileManifestLaws
pub mod Indexed
