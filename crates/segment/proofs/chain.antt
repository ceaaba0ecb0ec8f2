-- Laws of what specs/ defines.
pub mod Laws
pub mod Framed
pub mod Last
pub mod Places
pub mod Search
pub mod Walk
pub mod Wider
