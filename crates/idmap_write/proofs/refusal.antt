-- What an id map is refused for, by the ways out.
pub mod RefusalLaws
