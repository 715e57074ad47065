-- Shifted rows at the nominal behaviour.
use Rattle.std.proofs.Common.{◌≡◌, sym, List, [], ◌∷◌, ◌++◌, length, map}
use lib.IntN.{pos, negsuc, ◌*ℤ◌}
use lib.Signed.{◌<ℤ◌}
use Rattle.pa_ring.specs.Sums.{dot}
use Rattle.pa_ring.proofs.Integers.{gap, gap_same, ◌·◌, ◌∔◌, <ℤ-≤ℤ}
use Rattle.pa_ring.proofs.IntegerTactics.{by_le, reads}
use Rattle.pa_meaning.specs.Rows.{Row, Point, Meets, MeetsAll}
use Rattle.pa_meaning.specs.Weights.{Weights, combined}
use Rattle.pa_meaning.specs.Contracts.{Name, Behaviour, point_over, Extends}
use Rattle.pa_meaning.specs.Composition.{IsExactAtNominal}
use Rattle.pa_meaning.specs.Shifting.{less_weighted, Leaves}
use Rattle.pa_meaning.proofs.Shifting.{dot-row_sum, Meets-shifted, front_row_both}

-- where the weighted rows are met exactly, a point that meets the term meets what is left of it
pub left_from_term : (t : Row) (rows : List Row) (w : Weights) (x : Point) → pos 0 <ℤ w.den
    → dot (combined w.parts rows).c x.p ≡ (combined w.parts rows).b *ℤ x.q → Meets t x → Meets (less_weighted t rows w) x
left_from_term t rows w x up tight h =
    let sum : Row = combined w.parts rows in
    record {
      meets = rw (dot-row_sum w.den t (negsuc 0) sum x.p)
          (by_le (w.den ∷ dot t.c x.p ∷ t.b ∷ dot sum.c x.p ∷ sum.b ∷ x.q ∷ []) (<ℤ-≤ℤ up · gap h.meets ∔ gap_same (sym tight)) (search reads depth 40) tt);
    }

-- Weights are best at the nominal behaviour where some extension of it meets the rows and meets the weighted rows exactly, or
-- where no extension meets the rows: what is left of the term is then exact there.
pub nominal_exact : (external others : List Name) (given : List Row) (t : Row) (w : Weights) (nominal : Behaviour) → Leaves (length external) given t w
    → (u : Behaviour) → Extends external nominal u → MeetsAll given (point_over (external ++ others) u)
    → dot (combined w.parts given).c (map u.value (external ++ others)) ≡ (combined w.parts given).b *ℤ u.den
    → IsExactAtNominal external (external ++ others) given t (less_weighted t given w) nominal
nominal_exact external others given t w nominal leaves u extends met tight = record {
  exact = λ v e m. (
    λ h x f k. Meets-shifted t given w (point_over (external ++ others) x) leaves.positive leaves.weights k
        (front_row_both external others nominal x (less_weighted t given w) leaves.gone f h),
    λ h. front_row_both external others u nominal (less_weighted t given w) leaves.gone (extends_back external nominal u extends)
        (left_from_term t given w (point_over (external ++ others) u) leaves.positive tight (h u extends met)),
  );
}
  where
    extends_back : (names : List Name) (v x : Behaviour) → Extends names v x → Extends names x v
    extends_back names v x h = λ k d less. sym (h k d less)

-- and where no extension of the nominal behaviour meets the rows, there is nothing to be exact about
pub nominal_vacuous : (external names : List Name) (given : List Row) (term left : Row) (nominal : Behaviour)
    → ((w : Behaviour) → Extends external nominal w → ¬ MeetsAll given (point_over names w))
    → IsExactAtNominal external names given term left nominal
nominal_vacuous external names given term left nominal none = record { exact = λ w e m. absurd (none w e m) }
