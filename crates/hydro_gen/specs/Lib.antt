pub mod Names
pub mod Stage
pub mod Nodes
pub mod Generated
