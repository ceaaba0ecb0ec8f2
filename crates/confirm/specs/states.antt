-- Whether a link is a confirmed manifest, by the file alone: the definition, its law, and the steps of the test.
pub mod At
