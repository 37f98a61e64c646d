pub mod Columns
pub mod Counts
pub mod Signs
