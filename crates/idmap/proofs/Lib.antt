-- Laws of what specs/ defines.
pub mod DecodeLaws
pub mod DeltaLaws
pub mod Count
pub mod EncodeLaws
pub mod Accepted
pub mod Trip
