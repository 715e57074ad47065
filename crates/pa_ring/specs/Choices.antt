-- Finite choices: k of n places, and how many there are.
use Rattle.std.specs.Prelude.{◌≡◌, ◌↔◌, ℕ, zero, suc, ◌+◌, ◌<◌, List, [], ◌∷◌, length, All, Contains}

-- no element stands twice
abbrev pub NoRepeats : {A : Type 0} → List A → Type 0
NoRepeats [] = Unit {0}
NoRepeats (x ∷ xs) = ¬ Contains xs x × NoRepeats xs

-- the same elements, in any order and number
abbrev pub SameElements : {A : Type 0} → List A → List A → Type 0
SameElements {A} xs ys = (x : A) → Contains xs x ↔ Contains ys x

-- k of the n places below n, in any order
pub record IsChoice (n k : ℕ) (xs : List ℕ) : Type 0 where
  pub places : All (λ x. x < n) xs
  pub distinct : NoRepeats xs
  pub size : length xs ≡ k

-- how many choices of k of n places there are (the binomial coefficient), by Pascal's rule
abbrev pub choices : ℕ → ℕ → ℕ
choices n zero = 1
choices zero (suc k) = 0
choices (suc n) (suc k) = choices n k + choices n (suc k)
