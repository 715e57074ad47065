-- A column that is none of those so far is one more.
use Rattle.std.proofs.Common.{◌≡◌, ◌∙◌, refl, sym, ap₂, subst, ℕ, ◌<◌, false, nat_eq, List, [], ◌∷◌, ◌++◌, ◌||◌, take, arith}
use Rattle.std.specs.List.{IsDistinct, list_any}
use Rattle.std.proofs.lemmas.List.{take_more}
use Rattle.std.proofs.lemmas.List.Elements.{All-nil, All-push}
use Rattle.std.proofs.lemmas.Cmp.{nat_eq_equiv}
use Rattle.std.proofs.lemmas.Map.Keys.{IsDistinct-push}
use Rattle.pa_elim.specs.Meant.{AreColumns}
use Rattle.pa_elim.proofs.tests.are_columns.Goals as goal

none_distinct : IsDistinct nat_eq []
unfolding IsDistinct
none_distinct = tt

flipped : (k : ℕ) (ks : List ℕ) → list_any (nat_eq k) ks ≡ list_any (λ j. nat_eq j k) ks
flipped k [] = refl
flipped k (j ∷ ks) = ap₂ (λ a b. a || b) (nat_eq_equiv.symm k j) (flipped k ks)

one_more : (n k : ℕ) (ks : List ℕ) → AreColumns n ks → k < n → list_any (λ j. nat_eq j k) ks ≡ false → AreColumns n (ks ++ k ∷ [])
one_more n k ks h low apart = record {
  distinct = IsDistinct-push nat_eq_equiv ks k h.distinct (flipped k ks ∙ apart);
  placed = All-push (λ j. j < n) ks k h.placed low;
}

pub loop-i-init : goal.loop-i-init
loop-i-init c = record { distinct = none_distinct; placed = All-nil (λ k. k < c.args.columns) }

pub loop-i-preserved : goal.loop-i-preserved
loop-i-preserved c =
    subst (AreColumns c.args.columns) (sym (take_more c.args.places.now c.loop-i.i 0 (omega (arith, c.loop-i-test.true))))
    (one_more c.args.columns _ (take c.loop-i.i c.args.places.now) c.loop-i.invariant (omega (arith, c.if-places-i.false))
    (sym c.contains.ensures.value ∙ c.if-contains.false))
