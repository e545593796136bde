-- Laws of the definitions, and the main results.
pub mod PzfLaws
pub mod SaysLaws
pub mod Theorems
