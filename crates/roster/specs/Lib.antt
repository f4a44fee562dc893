pub mod FirstFault
pub mod Held
pub mod LaidDown
pub mod Layout
