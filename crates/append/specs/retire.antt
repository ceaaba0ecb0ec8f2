-- Retirement over plain lists: the definitions, the laws of the list of ids, where an id stands, and the turns of the loop that marks.
pub mod Marks
