-- Laws of the record file.
pub mod MeaningLaws
pub mod FileLaws
pub mod LineBounds
pub mod RefusalLaws
pub mod RoundTrip
