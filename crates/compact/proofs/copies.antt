-- Laws of what specs/ defines.
pub mod CopyLaws
pub mod FileLaws
pub mod Links
pub mod PlaceLaws
pub mod PutLaws
