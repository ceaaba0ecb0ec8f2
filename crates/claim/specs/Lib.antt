-- The model of a file, the claim about every list of appends, and the theorem.
pub mod Model
pub mod Demand3
pub mod Reports
pub mod Later
