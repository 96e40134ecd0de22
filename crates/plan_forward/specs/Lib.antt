pub mod Deciding
pub mod Walking
pub mod Costing
pub mod Amounts
