-- Laws of the listing, and its main results.
pub mod ItemsLaws
pub mod ListingLaws
pub mod NextLineLaws
pub mod SoFarLaws
pub mod CallsLaws
pub mod Theorems
