mod Replaced
pub mod Products
pub mod Reach
pub mod Weighted
pub mod RaisedBoxMaxima
pub mod MoreCuts
pub mod ShortSlopes
pub mod SlopeRanges
pub mod Ends
pub mod Covered
pub mod Leads
pub mod PushedCuts
pub mod FewerDigits
pub mod Removed
