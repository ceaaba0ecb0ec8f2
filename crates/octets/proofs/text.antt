-- Laws of what specs/ defines.
pub mod Written
pub mod TextLaws
