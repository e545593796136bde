-- That the examples hold.
pub mod Theorems
