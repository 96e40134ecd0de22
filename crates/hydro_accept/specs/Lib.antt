pub mod Fair
pub mod Plans
