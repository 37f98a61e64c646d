pub mod Ledger
pub mod Months
pub mod Nearest
pub mod Bends
pub mod Year
pub mod Asks
pub mod Built
