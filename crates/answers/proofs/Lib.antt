-- Laws of what specs/ defines.
pub mod HandedOn
pub mod Out
pub mod WriteLaws
