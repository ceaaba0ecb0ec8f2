-- Laws of what specs/ defines.
pub mod Accepts
pub mod Written
pub mod States
pub mod Opens
pub mod Buffer
