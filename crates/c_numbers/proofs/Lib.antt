-- Laws of readings as numbers.
pub mod NumberLaws
