-- A manifest's payload by the file alone, its laws, and the steps of writing it.
pub mod Laid
