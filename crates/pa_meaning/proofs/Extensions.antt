-- Behaviours that extend others: the same rows over these names are met by both.
use Rattle.std.proofs.Common.{◌≡◌, refl, sym, ap, ap₂, ◌∙◌, List, [], ◌∷◌, map}
use Rattle.std.proofs.lemmas.List.Elements.{All-nil, All-cons, All-head, All-tail, All-weaker}
use lib.IntN.{ℤ, pos, ◌*ℤ◌}
use lib.Signed.{◌<ℤ◌}
use Rattle.pa_ring.specs.Sums.{dot, times}
use Rattle.pa_ring.proofs.Integers.{gap, gap_same, ◌·◌, ◌∔◌, <ℤ-≤ℤ, ≤ℤ-*ℤ_cancel, *ℤ_cancel, null, ◌⋆◌, ◌⊞◌}
use Rattle.pa_ring.proofs.IntegerTactics.{by_le, by_equations, reads}
use Rattle.pa_ring.proofs.Sums.{dot-times_right}
use Rattle.pa_meaning.specs.Rows.{Row, Meets, MeetsAll}
use Rattle.pa_meaning.specs.Contracts.{Name, Behaviour, point_over, Extends}

pub extends_itself : (names : List Name) (v : Behaviour) → Extends names v v
extends_itself [] v = All-nil (λ n. v.value n *ℤ v.den ≡ v.value n *ℤ v.den)
extends_itself (n ∷ ns) v = All-cons (λ n. v.value n *ℤ v.den ≡ v.value n *ℤ v.den) n ns refl (extends_itself ns v)

same_fraction : (a d b e c f : ℤ) → pos 0 <ℤ e → b *ℤ d ≡ a *ℤ e → c *ℤ e ≡ b *ℤ f → c *ℤ d ≡ a *ℤ f
same_fraction a d b e c f up h k =
    *ℤ_cancel (c *ℤ d) (a *ℤ f) e up (by_equations (a ∷ b ∷ c ∷ d ∷ e ∷ f ∷ []) (d ⋆ null k ⊞ f ⋆ null h) (search reads depth 40) tt)

pub extends_trans : (names : List Name) (u v w : Behaviour) → Extends names u v → Extends names v w → Extends names u w
extends_trans [] u v w h k = All-nil (λ n. w.value n *ℤ u.den ≡ u.value n *ℤ w.den)
extends_trans (n ∷ ns) u v w h k =
    All-cons (λ n. w.value n *ℤ u.den ≡ u.value n *ℤ w.den) n ns
    (same_fraction (u.value n) u.den (v.value n) v.den (w.value n) w.den v.positive (All-head (λ n. v.value n *ℤ u.den ≡ u.value n *ℤ v.den) n ns h)
    (All-head (λ n. w.value n *ℤ v.den ≡ v.value n *ℤ w.den) n ns k))
    (extends_trans ns u v w (All-tail (λ n. v.value n *ℤ u.den ≡ u.value n *ℤ v.den) n ns h) (All-tail (λ n. w.value n *ℤ v.den ≡ v.value n *ℤ w.den) n ns k))

-- the numbers of an extension, each times the other's denominator
pub extension_numbers : (names : List Name) (v w : Behaviour) → Extends names v w → times v.den (map w.value names) ≡ times w.den (map v.value names)
extension_numbers [] v w h = refl
extension_numbers (n ∷ ns) v w h =
    let same : v.den *ℤ w.value n ≡ w.den *ℤ v.value n =
    by_equations (v.den ∷ w.value n ∷ w.den ∷ v.value n ∷ []) (null (All-head (λ n. w.value n *ℤ v.den ≡ v.value n *ℤ w.den) n ns h))
    (search reads depth 40) tt in
    ap₂ ◌∷◌ same (extension_numbers ns v w (All-tail (λ n. w.value n *ℤ v.den ≡ v.value n *ℤ w.den) n ns h))

-- a row over the names has the same meaning at both
same_met : (names : List Name) (v w : Behaviour) (r : Row) → Extends names v w → Meets r (point_over names w) → Meets r (point_over names v)
same_met names v w r e h =
    let sums : v.den *ℤ dot r.c (map w.value names) ≡ w.den *ℤ dot r.c (map v.value names) =
    sym (dot-times_right v.den r.c (map w.value names)) ∙ ap (dot r.c) (extension_numbers names v w e) ∙ dot-times_right w.den r.c (map v.value names) in
    record {
      meets = ≤ℤ-*ℤ_cancel (dot r.c (map v.value names)) (r.b *ℤ v.den) w.den w.positive
          (by_le (dot r.c (map v.value names) ∷ dot r.c (map w.value names) ∷ r.b ∷ v.den ∷ w.den ∷ [])
          (gap h.meets · <ℤ-≤ℤ v.positive ∔ gap_same (sym sums)) (search reads depth 40) tt);
    }

-- a list over the names is met by both or by neither
pub unmoved : (names : List Name) (rows : List Row) (v w : Behaviour) → Extends names v w → MeetsAll rows (point_over names w)
    → MeetsAll rows (point_over names v)
unmoved names rows v w e h = All-weaker (λ r. Meets r (point_over names w)) (λ r. Meets r (point_over names v)) (λ r k. same_met names v w r e k) rows h
