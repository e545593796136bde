-- The three demands, and the laws that they cite.
pub mod OrderLaws
pub mod WriterLaws
pub mod FitsLaws
pub mod KindLaws
pub mod Checks
pub mod EntryLaws
pub mod AgreeLaws
pub mod ReaderLaws
pub mod NumbersLaws
pub mod InstantLaws
pub mod NeverLaws
pub mod TrimbleLaws
pub mod SheetLaws
pub mod StreamLaws
pub mod Demand1
pub mod Demand2
pub mod Demand3
