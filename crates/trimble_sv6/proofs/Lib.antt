-- Laws of the definitions, and the main results.
pub mod XorLaws
pub mod SumLaws
pub mod PlaceLaws
pub mod TrimbleLaws
pub mod Checks
pub mod SaysLaws
pub mod LinesLaws
pub mod Theorems
