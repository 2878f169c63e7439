mod Dollars
pub mod Judging
