-- The definitions that the contracts of `record_text` cite, and those of lines and items that `record_file` builds on.
pub mod Bytes
pub mod Numeral
pub mod Parsed
pub mod Field
pub mod Codec
pub mod Line
pub mod Printable
pub mod Told
pub mod Lines
pub mod Items
pub mod Examples
