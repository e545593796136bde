-- The definitions that the contracts cite.
pub mod Feed
pub mod Event
