pub mod Numbers
pub mod Ends
pub mod Bounding
pub mod Shape
pub mod SameParts
pub mod Updates
pub mod Sparse
