-- The proofs of the round trips.
pub mod LengthLaws
pub mod ComposedSheet
pub mod RoundTrips
