pub mod Demands
pub mod Ledgers
pub mod LedgerExample
pub mod Listing
pub mod Examples
pub mod Words
