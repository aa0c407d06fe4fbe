-- The definitions that the contract of `wedgelets` cites, and what is shown of the list.
pub mod Wedgelet
pub mod Half
pub mod Answer
pub mod Laws
pub mod Examples
