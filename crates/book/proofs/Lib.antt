mod Identified
pub mod Accepted
pub mod Alike
pub mod Calling
pub mod EntryTests
pub mod Explains
pub mod Follows
pub mod Joined
pub mod Kept
pub mod Laws
pub mod Named
pub mod Opened
pub mod Runs
pub mod Ties
