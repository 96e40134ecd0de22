pub mod Values
pub mod Packed
pub mod Bounds
pub mod Scan
pub mod Steps
