pub mod Sums
pub mod Product
pub mod Steps
pub mod Lending
pub mod Each
pub mod Rows
pub mod Numerals
pub mod Texts
