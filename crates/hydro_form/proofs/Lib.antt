pub mod Counted
pub mod Orders
pub mod Rises
pub mod Walked
pub mod Found
pub mod Newline
pub mod Plain
