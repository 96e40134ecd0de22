pub mod NamedLines
pub mod NumberedLines
pub mod SoundLines
pub mod SoundTraces
