pub mod AlongPaths
pub mod Draws
pub mod PathFacts
pub mod Picking
mod WorkedDraws
