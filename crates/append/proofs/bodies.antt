-- The steps of writing what an append writes.
pub mod Bodies
pub mod Laid
