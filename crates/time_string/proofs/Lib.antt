-- Laws of kinds.
pub mod KindLaws
pub mod ReadLaws
