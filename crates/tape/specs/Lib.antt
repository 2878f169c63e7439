pub mod Records
pub mod Layout
pub mod Bytes
pub mod Words
