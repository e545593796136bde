-- Laws of numbers and the readings that they stand for, and the main results.
pub mod RangeLaws
pub mod FitsLaws
pub mod NumbersLaws
pub mod Theorems
