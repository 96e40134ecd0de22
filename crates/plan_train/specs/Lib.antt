pub mod Continuing
pub mod Drawing
pub mod Growing
pub mod Iterating
pub mod Stepping
pub mod Training
pub mod Resuming
pub mod Stored
