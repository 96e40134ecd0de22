pub mod DepthFirst
pub mod Paths
pub mod Ranks
pub mod Scatter
pub mod Search
