-- The places of columns that go are columns of what is left when their turns come, and there are as many.
use Rattle.std.proofs.Common.{◌≡◌, refl, sym, ap, subst, ℕ, suc, pred, ◌<◌, Bool, true, false, cond, nat_eq, nat_lt, arith}
use Rattle.std.proofs.Common.{List, [], ◌∷◌, ◌++◌, length, All}
use Rattle.std.proofs.lemmas.List.Elements.{All-head, All-tail}
use Rattle.std.proofs.lemmas.Map.Keys.{IsDistinct-head, IsDistinct-tail}
use Rattle.std.specs.List.{AllByRecursion, IsDistinct}
use Rattle.pa_elim.specs.Projecting.{moved_up, place_after, in_turn_after, in_turn}
use Rattle.pa_elim.specs.Meant.{AreColumns}
use Rattle.pa_elim.specs.Seen.{AreInTurn}

pub length-in_turn_after : (gone ks : List ℕ) → length (in_turn_after gone ks) ≡ length ks
length-in_turn_after gone [] = refl
length-in_turn_after gone (k ∷ ks) = ap suc (length-in_turn_after (gone ++ place_after gone k ∷ []) ks)

pub place_after-last : (gone : List ℕ) (g column : ℕ) → place_after (gone ++ g ∷ []) column ≡ moved_up g (place_after gone column)
place_after-last [] g column = refl
place_after-last (h ∷ gone) g column = place_after-last gone g (moved_up h column)

-- one that is not the other moves to a column of what is left
moved_below : (g column n : ℕ) → g < n → column < n → ¬ (column ≡ g) → moved_up g column < pred n
moved_below g column n low here apart = by (nat_lt g column) refl
  where
    by : (b : Bool) → nat_lt g column ≡ b → cond b (pred column) column < pred n
    by true h = grind (arith)
    by false h = grind (arith)

-- different ones stay different
moved_apart : (g a b : ℕ) → ¬ (a ≡ g) → ¬ (b ≡ g) → ¬ (a ≡ b) → ¬ (moved_up g a ≡ moved_up g b)
moved_apart g a b x y z = by (nat_lt g a) (nat_lt g b) refl refl
  where
    by : (c d : Bool) → nat_lt g a ≡ c → nat_lt g b ≡ d → ¬ (cond c (pred a) a ≡ cond d (pred b) b)
    by c d h k e = grind (arith)

-- each of these stands apart from this place, once those before are out
abbrev EachApart : List ℕ → ℕ → List ℕ → Type 0
EachApart gone g [] = Unit {0}
EachApart gone g (j ∷ js) = ¬ (place_after gone j ≡ g) × EachApart gone g js

-- they stand below n, and apart from each other
abbrev AreApartAfter : ℕ → List ℕ → List ℕ → Type 0
AreApartAfter n gone [] = Unit {0}
AreApartAfter n gone (k ∷ ks) = (place_after gone k < n) × EachApart gone (place_after gone k) ks × AreApartAfter n gone ks

module _ (gone : List ℕ) (g : ℕ) where
  each_next : (h : ℕ) (js : List ℕ) → ¬ (h ≡ g) → EachApart gone g js → EachApart gone h js → EachApart (gone ++ g ∷ []) (moved_up g h) js
  each_next h [] z x y = tt
  each_next h (j ∷ js) z x y = (
    subst (λ p. ¬ (p ≡ moved_up g h)) (sym (place_after-last gone g j)) (moved_apart g (place_after gone j) h x.0 z y.0),
    each_next h js z x.1 y.1,
  )

  apart_next : (n : ℕ) (ks : List ℕ) → g < n → EachApart gone g ks → AreApartAfter n gone ks → AreApartAfter (pred n) (gone ++ g ∷ []) ks
  apart_next n [] low x apart = tt
  apart_next n (j ∷ js) low x apart = (
    subst (λ p. p < pred n) (sym (place_after-last gone g j)) (moved_below g (place_after gone j) n low apart.0 x.0),
    subst (λ p. EachApart (gone ++ g ∷ []) p js) (sym (place_after-last gone g j)) (each_next (place_after gone j) js x.0 x.1 apart.1),
    apart_next n js low x.1 apart.2,
  )

turns_fit : (n : ℕ) (gone ks : List ℕ) → AreApartAfter n gone ks → AreInTurn n (in_turn_after gone ks)
turns_fit n gone [] apart = tt
turns_fit n gone (k ∷ ks) apart = (
  apart.0,
  turns_fit (pred n) (gone ++ place_after gone k ∷ []) ks (apart_next gone (place_after gone k) n ks apart.0 apart.1 apart.2),
)

each_start : (k : ℕ) (ks : List ℕ) → AllByRecursion (λ j. nat_eq k j ≡ false) ks → EachApart [] k ks
each_start k [] h = tt
each_start k (j ∷ js) h = ((λ e. let apart = h.0 in grind (arith)), each_start k js h.1)

apart_start : (n : ℕ) (ks : List ℕ) → IsDistinct nat_eq ks → All (λ k. k < n) ks → AreApartAfter n [] ks
apart_start n [] d h = tt
apart_start n (k ∷ ks) d h = (
  All-head (λ k. k < n) k ks h,
  each_start k ks (IsDistinct-head nat_eq k ks d),
  apart_start n ks (IsDistinct-tail nat_eq k ks d) (All-tail (λ k. k < n) k ks h),
)

-- different columns of n stand at columns that are left when their turns come
pub columns_in_turn : (n : ℕ) (ks : List ℕ) → AreColumns n ks → AreInTurn n (in_turn ks)
columns_in_turn n ks h = turns_fit n [] ks (apart_start n ks h.distinct h.placed)
