pub mod Decimal
pub mod Lines
pub mod LedgerLines
pub mod Samples
