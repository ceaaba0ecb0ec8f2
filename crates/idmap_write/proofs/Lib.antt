-- The id-map writer by its ways out.
pub mod WriteLaws
