-- A checksum by the checksums of its parts: laws.
pub mod Join
