-- The laws of decimal digits.
pub mod DecimalLaws
pub mod PairLaws
