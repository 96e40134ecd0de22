pub mod Tracing
pub mod Runs
