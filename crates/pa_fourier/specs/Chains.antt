-- The places of a group, one behind the other. Only what private functions ensure is said with it.
use Rattle.std.specs.Prelude.{◌≡◌, ◌<◌, ◌≤◌, ◌+◌, ℕ, List, length, nat_eq, get_or, false}

-- the least place from `from` on that has this number, or the end of the list where there is none
pub record IsNext (numbers : List ℕ) (number from place : ℕ) : Type 0 where
  pub behind : from ≤ place
  pub within : place ≤ length numbers
  pub least : (k : ℕ) → from ≤ k → k < place → nat_eq (get_or numbers k 0) number ≡ false
  pub has : place < length numbers → get_or numbers place 0 ≡ number

-- from a place on: the first place of each number, and for each place the next one that has its number
pub record AreLinked (numbers heads next : List ℕ) (from : ℕ) : Type 0 where
  pub below : (j : ℕ) → j < length numbers → get_or numbers j 0 < length numbers
  pub heads_count : length heads ≡ length numbers
  pub next_count : length next ≡ length numbers
  pub first : (g : ℕ) → g < length numbers → IsNext numbers g from (get_or heads g 0)
  pub behind : (j : ℕ) → from ≤ j → j < length numbers → IsNext numbers (get_or numbers j 0) (j + 1) (get_or next j 0)
