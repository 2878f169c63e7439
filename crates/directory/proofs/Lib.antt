pub mod Distinct
mod Changes
mod Standing
mod Ring
mod Slots
mod Gap
mod Look
mod Tables
mod Meaning
