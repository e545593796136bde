-- Laws of recordings, and the main results.
pub mod GapLaws
pub mod OutcomeLaws
pub mod RuleLaws
pub mod SheetLaws
pub mod FillLaws
pub mod RecordingLaws
pub mod DemandLaws
pub mod Theorems
