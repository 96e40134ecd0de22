pub mod Steps
pub mod Values
pub mod Fields
pub mod Limits
