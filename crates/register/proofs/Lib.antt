mod Branches
mod Guards
mod Into
mod Numbers
mod Offsets
mod Pages
mod ReadBack
mod Short
pub mod WriteBack
pub mod Fields
pub mod Holding
pub mod Several
pub mod Tails
pub mod Tickets
