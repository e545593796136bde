-- Laws of the definitions, and the main results.
pub mod StandardLaws
pub mod SaysLaws
pub mod Theorems
