-- Laws of the definitions, and the main results.
pub mod ElvLaws
pub mod SaysLaws
pub mod Theorems
