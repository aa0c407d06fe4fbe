-- Laws of writing.
pub mod StateLaws
pub mod WriteLaws
pub mod FirstLaws
pub mod CallLaws
pub mod Uncited
