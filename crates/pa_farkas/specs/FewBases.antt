-- When a limit of pivots is never met: a run has no basis twice (R. G. Bland, New finite pivoting rules for the simplex method, 1977).
use Rattle.std.specs.Prelude.{◌≡◌, ◌≤◌, ℕ, Result, Err}
use Rattle.pa_row.specs.declared.place.Place.{Place}
use Rattle.pa_row.specs.declared.place.Halt.{Halt}
use Rattle.pa_row.specs.declared.place.Halt.TheVariants.{PivotLimit}
use Rattle.pa_replay.specs.Limits.{most_bases}

-- a problem with this many rows and columns has no more bases than the limit of pivots
abbrev pub HasFewBases : ℕ → ℕ → ℕ → Type 0
HasFewBases rows columns most = (most_bases rows columns ≤ 4096) × (most_bases rows columns ≤ most)

-- the answer is not that the pivots were used up
abbrev pub IsNotLimited : {A : Type 0} → Result A Halt → Type 0
IsNotLimited r = (place : Place) → r ≡ Err (PivotLimit place) → ⊥
