pub mod File
pub mod Examples
