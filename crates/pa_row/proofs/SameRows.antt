-- Rows that the test takes for equal are equal.
pub use Rattle.pa_witness.proofs.Equalities.{same_row_is}
