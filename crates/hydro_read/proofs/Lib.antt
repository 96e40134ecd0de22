pub mod Walks
pub mod Accepted
pub mod Rising
pub mod Sums
pub mod Fits
