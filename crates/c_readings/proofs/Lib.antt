-- Laws of the C API of readings.
pub mod StringLaws
