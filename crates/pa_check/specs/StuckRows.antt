-- The tests of rows that are stuck, and of a circle of parts.
use Rattle.std.specs.Prelude.{ℕ, zero, suc, ◌<◌, List, [], ◌∷◌, ◌++◌, length, nat_lt, Bool, true, ◌&&◌, Result, Ok, All, AllPairs}
use Rattle.std.specs.List.{list_all}
use Rattle.pa_frac.specs.declared.wide.Wide.{Wide}
use Rattle.pa_meaning.specs.Rows.{Row, row_at}
use Rattle.pa_meaning.specs.Directions.{Stuck, Sticks}
use Rattle.pa_check.specs.Tests.{both}
use Rattle.pa_check.specs.Directions.{sticks_in}

-- the rows at a place; past the end none
abbrev pub rows_at : List (List Row) → ℕ → List Row
rows_at [] i = []
rows_at (rows ∷ lists) zero = rows
rows_at (rows ∷ lists) (suc i) = rows_at lists i

-- the row that is said to be stuck
abbrev pub stuck_at : List (List Row) → Stuck → Row
stuck_at parts s = row_at (rows_at parts s.part) s.row

-- whether the part is above those of all these
abbrev pub is_part_above : List Stuck → ℕ → Bool
is_part_above done part = list_all (λ e. nat_lt e.part part) done

-- whether the row is one of a part's behind these
abbrev pub is_row_placed : List (List Row) → List Stuck → ℕ → ℕ → Bool
is_row_placed parts done part row = is_part_above done part && nat_lt part (length parts) && nat_lt row (length (rows_at parts part))

abbrev pub stuck_in : List Row → List (List Row) → List Stuck → Stuck → Result Bool Wide
stuck_in given parts done s = both (Ok (is_row_placed parts done s.part s.row)) (sticks_in s.direction given (stuck_at parts s))

-- the stuck rows after these, in order
abbrev pub circle_from : List Row → List (List Row) → List Stuck → List Stuck → Result Bool Wide
circle_from given parts done [] = Ok true
circle_from given parts done (s ∷ stuck) = both (stuck_in given parts done s) (circle_from given parts (done ++ s ∷ []) stuck)

abbrev pub circle_in : List Row → List (List Row) → List Stuck → Result Bool Wide
circle_in given parts stuck = both (Ok (nat_lt 0 (length stuck))) (circle_from given parts [] stuck)

-- Some rows are stuck over the given rows: their parts ascend, each is a row of its part, and its direction sticks it.
pub record AreStuck (given : List Row) (parts : List (List Row)) (stuck : List Stuck) : Type 0 where
  pub some : 0 < length stuck
  pub ascending : AllPairs (λ (s t : Stuck). s.part < t.part) stuck
  pub parts_placed : All (λ s. s.part < length parts) stuck
  pub rows_placed : All (λ s. s.row < length (rows_at parts s.part)) stuck
  pub sticks : All (λ s. Sticks s.direction given (stuck_at parts s)) stuck
