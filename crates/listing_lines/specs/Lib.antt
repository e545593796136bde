-- The definitions that the contracts of the lines cite.
pub mod Line
pub mod Numeral
pub mod Totals
