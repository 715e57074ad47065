-- The whole numbers that a line begins with, row by row.
use Rattle.std.proofs.Common.{◌≡◌, Bool, ℕ, zero, suc, List, refl, sym, ◌∷◌, ◌<◌, ◌≤◌, length, get_or}
use Rattle.std.proofs.Common.{true, false, if◌then◌else◌, pos, [], ap, ◌∙◌, arith, nat_lt}
use Rattle.std.proofs.lemmas.List.{get_or-map, get_or_default, length-map}
use lib.IntN.{ℤ}
use Rattle.pa_ring.specs.Sums.{number_at}
use Rattle.pa_meaning.specs.Rows.{Row}
use Rattle.pa_replay.specs.Problem.{Problem, numbers_of, line_numbers, bounds, turned_number}

pub number_is : (xs : List ℤ) (i : ℕ) → number_at xs i ≡ get_or xs i (pos 0)
number_is [] i = refl
number_is (x ∷ xs) zero = refl
number_is (x ∷ xs) (suc i) = number_is xs i

-- a line of a column
pub own_numbers : (p : Problem) (i : ℕ) → i < length p.target → numbers_of p i ≡ line_numbers p i
own_numbers p i h = ap (λ b. if b then line_numbers p i else bounds p) test
  where
    test : nat_lt i (length p.target) ≡ true
    test = search arith

pub own_number : (p : Problem) (i j : ℕ) (d : Row) → i < length p.target → j < length p.rows →
    number_at (numbers_of p i) j ≡ turned_number p.target i (number_at (get_or p.rows j d).c i)
own_number p i j d h low =
    ap (λ ns. number_at ns j) (own_numbers p i h) ∙ number_is (line_numbers p i) j
    ∙ get_or-map (λ (row : Row). turned_number p.target i (number_at row.c i)) p.rows j d (pos 0) low

-- the bounds
pub bound_numbers : (p : Problem) (i : ℕ) → length p.target ≤ i → numbers_of p i ≡ bounds p
bound_numbers p i h = ap (λ b. if b then line_numbers p i else bounds p) test
  where
    test : nat_lt i (length p.target) ≡ false
    test = search arith

pub bound_number : (p : Problem) (i j : ℕ) (d : Row) → length p.target ≤ i → j < length p.rows → number_at (numbers_of p i) j ≡ (get_or p.rows j d).b
bound_number p i j d h low = ap (λ ns. number_at ns j) (bound_numbers p i h) ∙ number_is (bounds p) j ∙ get_or-map (λ (row : Row). row.b) p.rows j d (pos 0) low

-- a number that is read
pub number_is_at : (xs : List ℤ) (i : ℕ) (x : ℤ) → i < length xs → x ≡ get_or xs i x → x ≡ number_at xs i
number_is_at xs i x h e = e ∙ get_or_default xs i x (pos 0) h ∙ sym (number_is xs i)

pub length_numbers : (p : Problem) (i : ℕ) → length (numbers_of p i) ≡ length p.rows
length_numbers p i = by_test (nat_lt i (length p.target)) refl
  where
    by_test : (b : Bool) → nat_lt i (length p.target) ≡ b → length (numbers_of p i) ≡ length p.rows
    by_test true e = ap (λ b. length (if b then line_numbers p i else bounds p)) e ∙ rw length-map refl
    by_test false e = ap (λ b. length (if b then line_numbers p i else bounds p)) e ∙ rw length-map refl
