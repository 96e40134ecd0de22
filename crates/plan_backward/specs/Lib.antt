pub mod Certifying
pub mod Sweeping
pub mod Given
