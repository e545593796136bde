-- Laws of runs of digits, and the main results on them.
pub mod ReadLaws
pub mod WriteLaws
pub mod Theorems
