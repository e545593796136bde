-- The table of examples, and what it means that they hold.
pub mod Examples
