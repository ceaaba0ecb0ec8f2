-- What a varint of a delta map says as the next id.
pub mod Next
