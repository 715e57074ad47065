-- Counts of faults in memory.
use Rattle.std.proofs.Common.{◌≡◌, ℕ, ◌+◌, ◌-◌, ◌^◌, ◌≤◌, ◌<◌, List, [], ◌∷◌, nat_eq, true, refl, sym, arith, add-one, true≢false, inl, Result}
use Rattle.std.specs.List.{list_any}
use Rattle.std.proofs.lemmas.List.Elements.{All-head, All-tail}
use Rattle.pa_desk.specs.Causes.{Rose, HasCause, next_count}
use Rattle.pa_desk.specs.Memory.{listed_below, AllBelowEnd}

-- one more number takes nothing away
pub listed_below-le : (numbers : List ℕ) (n : ℕ) → listed_below numbers n ≤ listed_below numbers (n + 1)
listed_below-le numbers n = rw add-one (omega arith)

-- a listed number adds one
pub listed_below-listed : (numbers : List ℕ) (n : ℕ) → list_any (λ x. nat_eq x n) numbers ≡ true
    → listed_below numbers (n + 1) ≡ 1 + listed_below numbers n
listed_below-listed numbers n listed = rw add-one (rw listed refl)

-- a listed number is below the end
pub below_end : (numbers : List ℕ) (n : ℕ) → AllBelowEnd numbers → list_any (λ x. nat_eq x n) numbers ≡ true → n < 2 ^ 64 - 1
below_end [] n all listed = absurd (true≢false (sym listed))
below_end (x ∷ xs) n all listed =
    let head : x < 2 ^ 64 - 1 = All-head (λ x. x < 2 ^ 64 - 1) x xs all in
    grind (arith, below_end xs n (All-tail (λ x. x < 2 ^ 64 - 1) x xs all))

-- the count rises at a call whose number is listed
pub listed_below-rose : (numbers : List ℕ) (n m : ℕ) → m ≡ next_count n → AllBelowEnd numbers → list_any (λ x. nat_eq x n) numbers ≡ true
    → Rose (listed_below numbers n) (listed_below numbers m)
listed_below-rose numbers n m is all listed =
    let small : n < 2 ^ 64 - 1 = below_end numbers n all listed in
    let one : m ≡ n + 1 = omega arith in
    let more : listed_below numbers (n + 1) ≡ 1 + listed_below numbers n = listed_below-listed numbers n listed in
    rw one (omega arith)

-- so a call whose number is listed may answer a fault
pub HasCause-listed : {T E : Type 0} (failed : E) (excuse : Type 0) (result : Result T E) (numbers : List ℕ) (n m : ℕ)
    → n < 2 ^ 64 → m ≡ next_count n → AllBelowEnd numbers → list_any (λ x. nat_eq x n) numbers ≡ true
    → HasCause failed excuse (listed_below numbers n) (listed_below numbers m) result
HasCause-listed failed excuse result numbers n m fits is all listed = record {
  later = grind (arith, listed_below-le numbers n);
  cause = λ _. inl (listed_below-rose numbers n m is all listed);
}
