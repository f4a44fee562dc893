pub mod Flipping
pub mod Places
pub mod Rings
