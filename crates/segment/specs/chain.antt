-- Chains of links, for any format of a link: the walk, links with a head that gives their size, the last confirmed link, walking by a loop, the places
-- of links, searching from the end, and a format that reads more.
pub mod Chain
pub mod Laws
pub mod Last
