pub mod Picked
pub mod Drawn
