-- Laws of the definitions, and the main results.
pub mod AlignedLaws
pub mod AlignedReadLaws
pub mod AlignedWrittenLaws
pub mod PositionLaws
pub mod PositionReadLaws
pub mod PositionWrittenLaws
pub mod RulesLaws
pub mod SaysLaws
pub mod Theorems
