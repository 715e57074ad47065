-- A shelf and a sink in memory, whose calls fail by their numbers, from 0.
use Rattle.std.specs.Prelude.{ℕ, zero, suc, ◌+◌, ◌-◌, ◌^◌, ◌<◌, List, nat_eq, if◌then◌else◌, All}
use Rattle.std.specs.List.{list_any}
use Rattle.pa_desk.specs.Files.{Files}

-- how many different numbers of the list are below n
abbrev pub listed_below : List ℕ → ℕ → ℕ
listed_below numbers zero = 0
listed_below numbers (suc n) = (if list_any (λ x. nat_eq x n) numbers then 1 else 0) + listed_below numbers n

-- each number is below the end of a u64, so that the count of calls goes past it
abbrev pub AllBelowEnd : List ℕ → Type 0
AllBelowEnd numbers = All (λ x. x < 2 ^ 64 - 1) numbers

-- a shelf: its files, the numbers of the fetches that fail, and how many fetches there were
pub record ShelfState : Type 0 where
  pub files : Files
  pub fails : List ℕ
  pub fetches : ℕ

-- a sink: what it took, the numbers of the puts that fail, the most bytes of one put, and how many puts there were
pub record SinkState : Type 0 where
  pub bytes : List ℕ
  pub fails : List ℕ
  pub most : ℕ
  pub puts : ℕ
