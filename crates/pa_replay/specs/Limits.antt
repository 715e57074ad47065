-- How many bases there are, and that none comes twice.
use Rattle.std.specs.Prelude.{◌≡◌, ◌<◌, ℕ, ◌+◌, nat_le, if◌then◌else◌, length, Ok, Err}
use Rattle.pa_ring.specs.Choices.{SameElements, choices}
use Rattle.pa_tableau.specs.Arithmetic.{Arithmetic}
use Rattle.pa_tableau.specs.Tableau.{line_at}
use Rattle.pa_replay.specs.declared.«end».SolveFault.TheVariants.{PivotLimit}
use Rattle.pa_replay.specs.Problem.{Problem}
use Rattle.pa_replay.specs.Replay.{Ended, basic, replay}

-- how many choices of `columns` of `rows + columns` things there are, where that is at most 4,096, and else 4,097
abbrev pub most_bases : ℕ → ℕ → ℕ
most_bases rows columns = if nat_le (choices (rows + columns) columns) 4096 then choices (rows + columns) columns else 4097

-- The tableaux where a replay stops are fixed by their bases, up to the order of the lines.
abbrev pub IsFixedByBasis : Arithmetic → Problem → Type 0
IsFixedByBasis A p = (i j : ℕ) (a b : Ended) → Ok a ≡ replay A p i → Ok b ≡ replay A p j → SameElements a.table.basis b.table.basis →
    (k l : ℕ) → k < length p.target → l < length p.target → basic a.table k ≡ basic b.table l → line_at a.table k ≡ line_at b.table l

-- No basis comes twice: where i pivots were made and another one is to come, the basis after them is not the one after any later pivot.
abbrev pub HasNoBasisTwice : Arithmetic → Problem → Type 0
HasNoBasisTwice A p =
    (i j : ℕ) (a b : Ended) → i < j → Ok a ≡ replay A p i → a.answer ≡ Err PivotLimit → Ok b ≡ replay A p j → ¬ SameElements a.table.basis b.table.basis
