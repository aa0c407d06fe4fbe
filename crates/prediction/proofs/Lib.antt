-- Laws of predicted blocks.
pub mod BlockLaws
pub mod TransposedLaws
pub mod CallLaws
pub mod SideLaws
pub mod SideTransposedLaws
pub mod SideCallLaws
pub mod RaisedLaws
