-- Manifests: the payload's form, confirmation, and what opening finds.
pub mod Payload
pub mod Opening
pub mod Sized
pub mod At
pub mod Directory
pub mod Former
