-- The place of a name in a list of names, and the coefficient that stands there.
use Rattle.std.proofs.Common.{◌≡◌, ℕ, zero, suc, ◌+◌, ◌≤◌, ◌<◌, Bool, true, false, not, ◌||◌, cond, ltb, List, [], ◌∷◌, ◌++◌, length, Option, Some, None}
use Rattle.std.proofs.Common.{refl, sym, ap, ◌∙◌, ℤ, pos, get_or, arith}
use Rattle.std.specs.Prelude.{position}
use Rattle.std.specs.List.{list_any}
use Rattle.std.specs.Option.{option_map}
use Rattle.std.specs.Str.{bytes_eq}
use Rattle.std.proofs.lemmas.Bool.Decides.{nat_tests}
use Rattle.pa_ring.specs.Sums.{number_at}
use Rattle.pa_math.specs.Answers.{given}
use Rattle.pa_meaning.specs.Contracts.{Name, coefficient_at}

below_suc : (n m : ℕ) → ltb (1 + n) (suc m) ≡ ltb n m
below_suc n m = grind (arith, nat_tests)

zero_below : (m : ℕ) → ltb 0 (suc m) ≡ true
zero_below m = grind (arith, nat_tests)

one_further : (c : Bool) (n : ℕ) → cond c (Some (1 + n)) None ≡ option_map (λ i. suc i) (cond c (Some n) None)
one_further true n = ap (λ m. Some m) (omega arith)
one_further false n = refl

first_or_further : (b : Bool) (n m : ℕ)
    → cond (ltb (cond (not b) (1 + n) 0) (suc m)) (Some (cond (not b) (1 + n) 0)) None
    ≡ cond b (Some 0) (option_map (λ i. suc i) (cond (ltb n m) (Some n) None))
first_or_further true n m = ap (λ c. cond c (Some 0) None) (zero_below m)
first_or_further false n m = ap (λ c. cond c (Some (1 + n)) None) (below_suc n m) ∙ one_further (ltb n m) n

module _ {A : Type 0} (p : A → Bool) where
  -- the first place that passes, by the first element
  pub position-cons : (x : A) (xs : List A) → position p (x ∷ xs) ≡ cond (p x) (Some 0) (option_map (λ i. suc i) (position p xs))
  position-cons x xs = first_or_further (p x) _ (length xs)

  -- where no element passes, there is no place
  pub position-none : (xs : List A) → list_any p xs ≡ false → position p xs ≡ None
  position-none [] h = refl
  position-none (x ∷ xs) h = position-cons x xs ∙ by (p x) h (position-none xs)
    where
      by : (b : Bool) → (b || list_any p xs) ≡ false → (list_any p xs ≡ false → position p xs ≡ None)
          → cond b (Some 0) (option_map (λ i. suc i) (position p xs)) ≡ None
      by true h rest = absurd (cc)
      by false h rest = ap (option_map (λ i. suc i)) (rest h)

-- the number at a place, as it is read there
pub number_at_read : (xs : List ℤ) (i : ℕ) (d : ℤ) → i < length xs → number_at xs i ≡ get_or xs i d
number_at_read [] i d h = absurd (omega arith)
number_at_read (x ∷ xs) zero d h = refl
number_at_read (x ∷ xs) (suc i) d h = number_at_read xs i d (omega arith)

-- behind the last number there are zeros
pub number_at_past : (xs : List ℤ) (i : ℕ) → length xs ≤ i → number_at xs i ≡ pos 0
number_at_past [] i h = refl
number_at_past (x ∷ xs) zero h = absurd (omega arith)
number_at_past (x ∷ xs) (suc i) h = number_at_past xs i (omega arith)

at_further : (o : Option ℕ) (c : ℤ) (cs : List ℤ) → given (pos 0) (option_map (λ i. suc i) o) (number_at (c ∷ cs)) ≡ given (pos 0) o (number_at cs)
at_further None c cs = refl
at_further (Some i) c cs = refl

at_first : (b : Bool) (o : Option ℕ) (c : ℤ) (cs : List ℤ)
    → given (pos 0) (cond b (Some 0) (option_map (λ i. suc i) o)) (number_at (c ∷ cs)) ≡ cond b c (given (pos 0) o (number_at cs))
at_first true o c cs = refl
at_first false o c cs = at_further o c cs

-- the coefficient at a name, by the first name
pub coefficient_at-cons : (n : Name) (ns : List Name) (c : ℤ) (cs : List ℤ) (w : Name)
    → coefficient_at (n ∷ ns) (c ∷ cs) w ≡ cond (bytes_eq w n) c (coefficient_at ns cs w)
coefficient_at-cons n ns c cs w =
    ap (λ o. given (pos 0) o (number_at (c ∷ cs))) (position-cons (bytes_eq w) n ns) ∙ at_first (bytes_eq w n) (position (bytes_eq w) ns) c cs

-- where there are no numbers, each coefficient is 0
pub coefficient_at-no_numbers : (ns : List Name) (w : Name) → coefficient_at ns [] w ≡ pos 0
coefficient_at-no_numbers ns w = by (position (bytes_eq w) ns)
  where
    by : (o : Option ℕ) → given (pos 0) o (number_at []) ≡ pos 0
    by None = refl
    by (Some i) = refl

-- at a name that is not among the names the coefficient is 0
pub coefficient_at-absent : (ns : List Name) (cs : List ℤ) (w : Name) → list_any (bytes_eq w) ns ≡ false → coefficient_at ns cs w ≡ pos 0
coefficient_at-absent ns cs w h = ap (λ o. given (pos 0) o (number_at cs)) (position-none (bytes_eq w) ns h)

module _ {A : Type 0} (p : A → Bool) where
  -- the first place in two lists one after the other
  pub position_left : (xs ys : List A) (i : ℕ) → position p xs ≡ Some i → position p (xs ++ ys) ≡ Some i
  position_left [] ys i h = absurd (cc)
  position_left (x ∷ xs) ys i h = position-cons p x (xs ++ ys) ∙ by (p x) (position p xs) refl (sym (position-cons p x xs) ∙ h) (λ j e. position_left xs ys j e)
    where
      by : (b : Bool) (o : Option ℕ) → position p xs ≡ o → cond b (Some 0) (option_map (λ i. suc i) (position p xs)) ≡ Some i
          → ((j : ℕ) → position p xs ≡ Some j → position p (xs ++ ys) ≡ Some j) → cond b (Some 0) (option_map (λ i. suc i) (position p (xs ++ ys))) ≡ Some i
      by true o e h rest = h
      by false None e h rest = absurd (let none : None ≡ Some i = sym (ap (option_map (λ i. suc i)) e) ∙ h in cc)
      by false (Some j) e h rest = ap (option_map (λ i. suc i)) (rest j e ∙ sym e) ∙ h

  pub position_right : (xs ys : List A) → position p xs ≡ None → position p (xs ++ ys) ≡ option_map (λ i. length xs + i) (position p ys)
  position_right [] ys h = by (position p ys)
    where
      by : (o : Option ℕ) → o ≡ option_map (λ i. 0 + i) o
      by None = refl
      by (Some i) = ap (λ j. Some j) (omega arith)
  position_right (x ∷ xs) ys h = position-cons p x (xs ++ ys) ∙ by (p x) (position p xs) refl (sym (position-cons p x xs) ∙ h) (λ e. position_right xs ys e)
    where
      further : (o : Option ℕ) → option_map (λ i. suc i) (option_map (λ i. length xs + i) o) ≡ option_map (λ i. suc (length xs) + i) o
      further None = refl
      further (Some i) = ap (λ j. Some j) (omega arith)

      by : (b : Bool) (o : Option ℕ) → position p xs ≡ o → cond b (Some 0) (option_map (λ i. suc i) (position p xs)) ≡ None
          → (position p xs ≡ None → position p (xs ++ ys) ≡ option_map (λ i. length xs + i) (position p ys))
          → cond b (Some 0) (option_map (λ i. suc i) (position p (xs ++ ys))) ≡ option_map (λ i. suc (length xs) + i) (position p ys)
      by true o e h rest = absurd (cc)
      by false None e h rest = ap (option_map (λ i. suc i)) (rest e) ∙ further (position p ys)
      by false (Some j) e h rest = absurd (let none : Some (suc j) ≡ None = sym (ap (option_map (λ i. suc i)) e) ∙ h in cc)
