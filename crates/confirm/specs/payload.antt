-- The checksums of a manifest's payload, without a pass over its root.
pub mod Sum
