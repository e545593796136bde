-- Laws of an accepted minute and of numbers, and the main results.
pub mod RunLaws
pub mod NumberLaws
pub mod InstantLaws
pub mod MinuteLaws
pub mod Theorems
