pub mod Absences
pub mod Evidence
pub mod Faults
pub mod Order
pub mod Rankings
pub mod Rings
pub mod Sides
pub mod Words
