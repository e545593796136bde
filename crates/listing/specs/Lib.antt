-- The definitions that the contracts and the theorems of the listing cite.
pub mod Items
pub mod Listing
pub mod NextLine
pub mod Calls
