mod Fields
mod Spelling
mod Rows
