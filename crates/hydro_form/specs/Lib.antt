pub mod Listed
pub mod Stage
pub mod Nodes
