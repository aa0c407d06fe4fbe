-- The definitions that the contracts of `record_print` cite beside those of `record_text`.
pub mod Put
