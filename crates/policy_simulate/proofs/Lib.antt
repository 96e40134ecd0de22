pub mod Amounts
pub mod Following
pub mod Tracing
pub mod Numbering
