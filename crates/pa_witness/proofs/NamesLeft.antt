-- Names that go, one after another: the names that are left are those that stay.
use Rattle.std.proofs.Common.{◌≡◌, refl, sym, ap, subst, ◌∙◌, append_assoc, suc, Bool, true, false, not, ◌||◌, cond, List, [], ◌∷◌, ◌++◌, filter}
use Rattle.std.proofs.lemmas.Cmp.{nat_list_eq_equiv}
use Rattle.std.specs.List.{list_any, IsDistinct}
use Rattle.std.specs.Str.{bytes_eq}
use Rattle.pa_ring.specs.Sums.{without}
use Rattle.pa_math.proofs.Unions.{AreApart-flip, IsDistinct-apart, list_any-right}
use Rattle.pa_meaning.specs.Contracts.{Name}
use Rattle.pa_witness.specs.Projection.{AreThere, place_of, names_left}
use Rattle.pa_witness.proofs.Projection.{IsDistinct-without}

pub without_place : (g : Name) (xs ys : List Name) → list_any (bytes_eq g) xs ≡ false → without (place_of g (xs ++ g ∷ ys)) (xs ++ g ∷ ys) ≡ xs ++ ys
without_place g [] ys h = ap (λ b. without (cond b 0 (suc (place_of g ys))) (g ∷ ys)) (nat_list_eq_equiv.refl g)
without_place g (x ∷ xs) ys h = by (bytes_eq g x) h (without_place g xs ys)
  where
    by : (b : Bool) → (b || list_any (bytes_eq g) xs) ≡ false
        → (list_any (bytes_eq g) xs ≡ false → without (place_of g (xs ++ g ∷ ys)) (xs ++ g ∷ ys) ≡ xs ++ ys)
        → without (cond b 0 (suc (place_of g (xs ++ g ∷ ys)))) (x ∷ (xs ++ g ∷ ys)) ≡ x ∷ (xs ++ ys)
    by true h rest = absurd (cc)
    by false h rest = ap (λ zs. x ∷ zs) (rest h)

pub new_there : (xs ys : List Name) (y : Name) → IsDistinct bytes_eq (xs ++ y ∷ ys) → list_any (bytes_eq y) xs ≡ false
new_there xs ys y d = (AreApart-flip bytes_eq nat_list_eq_equiv xs (y ∷ ys) (IsDistinct-apart bytes_eq xs (y ∷ ys) d)).0

pub still_distinct : (xs ys : List Name) (y : Name) → IsDistinct bytes_eq (xs ++ y ∷ ys) → IsDistinct bytes_eq (xs ++ ys)
still_distinct xs ys y d = subst (IsDistinct bytes_eq) (without_place y xs ys (new_there xs ys y d))
    (IsDistinct-without (place_of y (xs ++ y ∷ ys)) (xs ++ y ∷ ys) d)

module _ (stays goes : Name → Bool) (either : (n : Name) → goes n ≡ not (stays n)) where
  left_step : (xs ys : List Name) (y : Name) → IsDistinct bytes_eq (xs ++ y ∷ ys)
      → names_left ((xs ++ y ∷ []) ++ ys) (filter goes ys) ≡ (xs ++ y ∷ []) ++ filter stays ys
      → names_left (xs ++ ys) (filter goes ys) ≡ xs ++ filter stays ys
      → names_left (xs ++ y ∷ ys) (filter goes (y ∷ ys)) ≡ xs ++ filter stays (y ∷ ys)
  left_step xs ys y d kept gone = subst (λ b. names_left (xs ++ y ∷ ys) (cond b (y ∷ filter goes ys) (filter goes ys)) ≡ xs ++ filter stays (y ∷ ys))
      (sym (either y)) (by (stays y))
    where
      by : (b : Bool) → names_left (xs ++ y ∷ ys) (cond (not b) (y ∷ filter goes ys) (filter goes ys)) ≡ xs ++ cond b (y ∷ filter stays ys) (filter stays ys)
      by true = ap (λ ns. names_left ns (filter goes ys)) (sym (append_assoc xs (y ∷ []) ys)) ∙ kept ∙ append_assoc xs (y ∷ []) (filter stays ys)
      by false = ap (λ ns. names_left ns (filter goes ys)) (without_place y xs ys (new_there xs ys y d)) ∙ gone

  -- the names that are left are those that stay
  pub left_are : (xs ys : List Name) → IsDistinct bytes_eq (xs ++ ys) → names_left (xs ++ ys) (filter goes ys) ≡ xs ++ filter stays ys
  left_are xs [] d = refl
  left_are xs (y ∷ ys) d =
      left_step xs ys y d (left_are (xs ++ y ∷ []) ys (subst (IsDistinct bytes_eq) (sym (append_assoc xs (y ∷ []) ys)) d))
      (left_are xs ys (still_distinct xs ys y d))

  there_step : (xs ys : List Name) (y : Name) → IsDistinct bytes_eq (xs ++ y ∷ ys) → AreThere ((xs ++ y ∷ []) ++ ys) (filter goes ys)
      → AreThere (xs ++ ys) (filter goes ys)
      → AreThere (xs ++ y ∷ ys) (filter goes (y ∷ ys))
  there_step xs ys y d kept gone = by (goes y)
    where
      by : (b : Bool) → AreThere (xs ++ y ∷ ys) (cond b (y ∷ filter goes ys) (filter goes ys))
      by true = (
        list_any-right (bytes_eq y) xs (y ∷ ys) (ap (λ b. b || list_any (bytes_eq y) ys) (nat_list_eq_equiv.refl y)),
        subst (λ ns. AreThere ns (filter goes ys)) (sym (without_place y xs ys (new_there xs ys y d))) gone,
      )
      by false = subst (λ ns. AreThere ns (filter goes ys)) (append_assoc xs (y ∷ []) ys) kept

  pub go_there : (xs ys : List Name) → IsDistinct bytes_eq (xs ++ ys) → AreThere (xs ++ ys) (filter goes ys)
  go_there xs [] d = tt
  go_there xs (y ∷ ys) d =
      there_step xs ys y d (go_there (xs ++ y ∷ []) ys (subst (IsDistinct bytes_eq) (sym (append_assoc xs (y ∷ []) ys)) d))
      (go_there xs ys (still_distinct xs ys y d))
