-- The definitions that the contracts cite.
pub mod Row
pub mod Kind
pub mod Accepted
