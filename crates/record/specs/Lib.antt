-- A record: its meaning, its checks, and records as they are lent.
pub mod Record
pub mod Meaning
pub mod Lent
pub mod Told
