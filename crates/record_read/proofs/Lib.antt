-- Laws of reading.
pub mod ReadLaws
pub mod EmptyLaws
pub mod RestLaws
pub mod FrontLaws
pub mod StepLaws
pub mod BackLaws
pub mod Uncited
