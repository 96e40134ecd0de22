pub mod Traits
pub mod Commands
