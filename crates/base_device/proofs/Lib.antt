pub mod Changes
pub mod Histories
pub mod MemoryDisks
mod ReadRest
pub mod RunsOfCalls
pub mod Steps
pub mod Torn
pub mod Unobservable
pub mod Zeros
pub mod FoundAgain
