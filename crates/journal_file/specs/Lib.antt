pub mod Causes
pub mod CommitBytes
pub mod Head
pub mod Layout
pub mod IsPrefix
pub mod Versions
