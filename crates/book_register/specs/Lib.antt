pub mod Faults
pub mod Loads
pub mod Law
pub mod Loaded
pub mod Written
