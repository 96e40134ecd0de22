pub mod Examples
pub mod Classifying
pub mod Farkas
pub mod Settling
pub mod SharedTargets
pub mod SizedSums
pub mod Faults
