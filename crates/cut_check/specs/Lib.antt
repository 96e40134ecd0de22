pub mod Bases
pub mod Shares
pub mod Pairs
pub mod Bounds
