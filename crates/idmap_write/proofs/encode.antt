-- Where the loops stand that write an id map.
pub mod Put
