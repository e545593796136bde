-- Laws of the definitions.
pub mod SignedLaws
