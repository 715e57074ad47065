-- The tests of the drops of a thinning.
use Rattle.std.specs.Prelude.{ℕ, ◌<◌, List, [], ◌∷◌, ◌++◌, length, ℤ, nat_lt, nat_eq, Bool, true, not, ◌&&◌, ◌||◌, Result, Ok, All, AllPairs}
use Rattle.std.specs.List.{list_all, list_any}
use Rattle.pa_frac.specs.declared.wide.Wide.{Wide}
use Rattle.pa_meaning.specs.Rows.{Row, row_at}
use Rattle.pa_witness.specs.Thinning.{Dropped, DropsHold}
use Rattle.pa_row.specs.Sums.{covers_in}
use Rattle.pa_check.specs.Tests.{both}
use Rattle.pa_check.specs.Proofs.{are_below}

-- whether the place is above those of all these drops
abbrev pub is_above : List Dropped → ℕ → Bool
is_above done place = list_all (λ e. nat_lt e.row place) done

-- whether one of these drops has the place
abbrev pub is_dropped : List Dropped → ℕ → Bool
is_dropped done place = list_any (λ e. nat_eq place e.row) done

-- whether the weights name neither this place nor that of one of these drops
abbrev pub names_none : List Dropped → ℕ → List (ℕ × ℤ) → Bool
names_none done place parts = list_all (λ part. not (nat_eq part.0 place || is_dropped done part.0)) parts

-- whether a drop after these is in range and after them, and its weights name rows that are there and are not dropped
abbrev pub is_named_well : List Row → ℕ → List Dropped → Dropped → Bool
is_named_well rows own done d = nat_lt d.row own && is_above done d.row && are_below (length rows) d.weights.parts && names_none done d.row d.weights.parts

abbrev pub drop_in : List Row → ℕ → List Dropped → Dropped → Result Bool Wide
drop_in rows own done d = both (Ok (is_named_well rows own done d)) (covers_in rows (row_at rows d.row) d.weights)

-- the drops after these, in order
abbrev pub drops_from : List Row → ℕ → List Dropped → List Dropped → Result Bool Wide
drops_from rows own done [] = Ok true
drops_from rows own done (d ∷ drops) = both (drop_in rows own done d) (drops_from rows own (done ++ d ∷ []) drops)

abbrev pub drops_in : List Row → ℕ → List Dropped → Result Bool Wide
drops_in rows own drops = drops_from rows own [] drops

-- The drops ascend among the first rows, as many as given here, and the weights of each prove its row over all rows; they
-- name neither it nor a row that was dropped before.
pub record DropsStand (rows : List Row) (own : ℕ) (drops : List Dropped) : Type 0 where
  pub ascending : AllPairs (λ (d e : Dropped). d.row < e.row) drops
  pub placed : All (λ d. d.row < own) drops
  pub shown : DropsHold rows [] drops
