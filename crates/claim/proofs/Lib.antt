-- Laws of what specs/ defines.
pub mod Agree
pub mod Reports
pub mod ClaimHolds
pub mod CutHolds
pub mod Theorem
pub mod AfterAppend
pub mod InStepHolds
pub mod LaterHolds
pub mod Parted
