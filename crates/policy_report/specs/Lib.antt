pub mod Lines
pub mod Report
pub mod SoundLines
pub mod Traces
