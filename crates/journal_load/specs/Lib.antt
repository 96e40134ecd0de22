pub mod Refusals
pub mod Cuts
pub mod RootValues
pub mod Records
pub mod Load
pub mod Accepted
pub mod Examples
