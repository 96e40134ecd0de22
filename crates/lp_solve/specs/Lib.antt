pub mod Chains
pub mod Fitting
pub mod Going
pub mod Steps
pub mod Turns
pub mod Violations
pub mod Suiting
