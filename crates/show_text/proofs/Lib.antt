-- Laws of what `show` prints.
pub mod PrintLaws
pub mod SampleLaws
pub mod AidLaws
pub mod ShowLaws
pub mod FirstBytes
