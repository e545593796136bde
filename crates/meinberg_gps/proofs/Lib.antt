-- Laws of the definitions, and the main results.
pub mod OffsetLaws
pub mod ReadLaws
pub mod FieldsLaws
pub mod AcceptLaws
pub mod SaysLaws
pub mod GpsLaws
pub mod FitsLaws
pub mod Theorems
