pub mod cut
pub mod twice
pub mod anew
