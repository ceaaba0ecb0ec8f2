-- Where a vector stands in a file, by the segments searched.
pub mod Located
