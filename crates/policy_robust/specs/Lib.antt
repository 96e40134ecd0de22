pub mod Alternatives
pub mod Listed
pub mod RiskCuts
pub mod RiskCost
pub mod Report
