-- Laws of the program's listing and of its arguments.
pub mod ProgressLaws
pub mod RequestLaws
