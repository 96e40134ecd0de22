pub mod Moves
pub mod Ordered
pub mod Fixing
pub mod Mending
pub mod Stages
pub mod Deciding
