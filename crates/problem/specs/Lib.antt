pub mod Limits
pub mod Distinct
pub mod Parts
pub mod Validated
pub mod Formulas
pub mod Arranged
pub mod Hull
