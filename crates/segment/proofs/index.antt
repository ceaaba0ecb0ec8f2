-- Laws of what specs/ defines.
pub mod Down
pub mod Numbered
pub mod Offsets
