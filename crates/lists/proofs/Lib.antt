pub mod Earliest
pub mod Pigeonhole
