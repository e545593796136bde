-- The definitions that the contracts cite.
pub mod Gaps
pub mod Outcomes
pub mod Rule
pub mod Recording
pub mod SheetNumber
pub mod Demand
