-- The scan of every row.
pub mod Scan
