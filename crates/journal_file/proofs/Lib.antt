pub mod Bytes
pub mod CommitBytesRead
pub mod Growing
pub mod HeadsRead
pub mod Newborn
pub mod Reading
pub mod DiskBytes
