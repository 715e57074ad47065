-- Rows that mention the first columns alone: a behaviour meets them over the first names exactly where it meets them over
-- all names.
use Rattle.std.proofs.Common.{◌≡◌, ◌≤◌, refl, sym, ap, ◌∙◌, subst, ℕ, Bool, true, false, not, ◌||◌, ◌↔◌, List, [], ◌∷◌, ◌++◌, length, map, take, drop, None}
use Rattle.std.proofs.Common.{All, arith}
use Rattle.std.specs.Prelude.{position, Contains}
use Rattle.std.specs.List.{list_any, AllByRecursion}
use Rattle.std.specs.Option.{is_some}
use Rattle.std.specs.Ordering.{int_eq}
use Rattle.std.proofs.lemmas.Bool.Decides.{Decides-int_eq}
use Rattle.std.proofs.lemmas.Int.{ints}
use Rattle.std.proofs.lemmas.List.{length-map, map-append}
use Rattle.std.proofs.lemmas.List.Elements.{All-contains, All-from_recursion, recursion_from_All}
use lib.IntN.{ℤ, pos, ◌+ℤ◌, ◌*ℤ◌}
use lib.Signed.{◌≤ℤ◌}
use Rattle.pa_ring.specs.Sums.{dot}
use Rattle.pa_ring.proofs.Lists.{All-from_contains}
use Rattle.pa_math.proofs.Unions.{none-list_any}
use Rattle.pa_meaning.specs.Rows.{Row, Meets, MeetsAll}
use Rattle.pa_meaning.specs.Contracts.{Name, Behaviour, point_over}
use Rattle.pa_contract.specs.Make.{mentions_from, first_columns}
use Rattle.pa_contract.proofs.Steps.{is_some-position}

-- ---- rows that have the first columns alone
dot-short : (cs ps qs : List ℤ) → length cs ≤ length ps → dot cs (ps ++ qs) ≡ dot cs ps
dot-short [] ps qs h = refl
dot-short (c ∷ cs) [] qs h = absurd (omega arith)
dot-short (c ∷ cs) (p ∷ ps) qs h = ap (λ s. c *ℤ p +ℤ s) (dot-short cs ps qs (omega arith))

module _ (inputs outputs : List Name) (v : Behaviour) where
  short_sum : (r : Row) → length r.c ≤ length inputs → dot r.c (map v.value (inputs ++ outputs)) ≡ dot r.c (map v.value inputs)
  short_sum r h =
      ap (dot r.c) (map-append v.value inputs outputs)
      ∙ dot-short r.c (map v.value inputs) (map v.value outputs) (let n = length-map inputs v.value in omega arith)

  -- a row over the first names says of a behaviour over all names what it says over its own
  pub meets_front : (r : Row) → length r.c ≤ length inputs → Meets r (point_over (inputs ++ outputs) v) ↔ Meets r (point_over inputs v)
  meets_front r h = (
    λ m. record { meets = subst (λ s. s ≤ℤ (r.b *ℤ v.den)) (short_sum r h) m.meets },
    λ m. record { meets = subst (λ s. s ≤ℤ (r.b *ℤ v.den)) (sym (short_sum r h)) m.meets },
  )

  pub all_short : (rows : List Row) → All (λ r. length r.c ≡ length inputs) rows → MeetsAll rows (point_over (inputs ++ outputs) v) ↔ MeetsAll rows
      (point_over inputs v)
  all_short rows h = (
    λ m. All-from_contains (λ r. Meets r (point_over inputs v)) rows
        (λ r i. (meets_front r (fits r i)).0 (All-contains (λ r. Meets r (point_over (inputs ++ outputs) v)) rows r m i)),
    λ m. All-from_contains (λ r. Meets r (point_over (inputs ++ outputs) v)) rows
        (λ r i. (meets_front r (fits r i)).1 (All-contains (λ r. Meets r (point_over inputs v)) rows r m i)),
  )
    where
      fits : (r : Row) → Contains rows r → length r.c ≤ length inputs
      fits r i = let e = All-contains (λ r. length r.c ≡ length inputs) rows r h i in omega arith

-- ---- rows that have 0 in the other columns
dot-zeros : (cs ps : List ℤ) → list_any (λ z. not (int_eq z (pos 0))) cs ≡ false → dot cs ps ≡ pos 0
dot-zeros [] ps h = refl
dot-zeros (c ∷ cs) [] h = refl
dot-zeros (c ∷ cs) (p ∷ ps) h = by (int_eq c (pos 0)) refl h (dot-zeros cs ps)
  where
    by : (b : Bool) → int_eq c (pos 0) ≡ b → (not b || list_any (λ z. not (int_eq z (pos 0))) cs) ≡ false
        → (list_any (λ z. not (int_eq z (pos 0))) cs ≡ false → dot cs ps ≡ pos 0) → c *ℤ p +ℤ dot cs ps ≡ pos 0
    by true e h rest = let r = rest h in omega (arith, ints, r, ap (λ z. z *ℤ p) ((Decides-int_eq c (pos 0)).0 e))
    by false e h rest = absurd (cc)

dot-front : (cs : List ℤ) (f : Name → ℤ) (ns ms : List Name) → list_any (λ z. not (int_eq z (pos 0))) (drop (length ns) cs) ≡ false
    → dot (take (length ns) cs) (map f ns) ≡ dot cs (map f (ns ++ ms))
dot-front cs f [] ms h = sym (dot-zeros cs (map f ms) h)
dot-front [] f (n ∷ ns) ms h = refl
dot-front (c ∷ cs) f (n ∷ ns) ms h = ap (λ s. c *ℤ f n +ℤ s) (dot-front cs f ns ms h)

module _ (inputs outputs : List Name) (v : Behaviour) where
  abbrev Cut : Row → Type 0
  Cut r = Meets (first_columns (length inputs) r) (point_over inputs v)

  abbrev Whole : Row → Type 0
  Whole r = Meets r (point_over (inputs ++ outputs) v)

  whole : (r : Row) → mentions_from (length inputs) r ≡ false → Cut r → Whole r
  whole r h m = record { meets = subst (λ s. s ≤ℤ (r.b *ℤ v.den)) (dot-front r.c v.value inputs outputs h) m.meets }

  cut : (r : Row) → mentions_from (length inputs) r ≡ false → Whole r → Cut r
  cut r h m = record { meets = subst (λ s. s ≤ℤ (r.b *ℤ v.den)) (sym (dot-front r.c v.value inputs outputs h)) m.meets }

  all_whole : (rows : List Row) → AllByRecursion (λ r. mentions_from (length inputs) r ≡ false) rows → AllByRecursion
      (λ r. Meets r (point_over inputs v)) (map (first_columns (length inputs)) rows) → AllByRecursion Whole rows
  all_whole [] h m = tt
  all_whole (r ∷ rs) h m = (whole r h.0 m.0, all_whole rs h.1 m.1)

  all_cut : (rows : List Row) → AllByRecursion (λ r. mentions_from (length inputs) r ≡ false) rows → AllByRecursion Whole rows → AllByRecursion
      (λ r. Meets r (point_over inputs v)) (map (first_columns (length inputs)) rows)
  all_cut [] h m = tt
  all_cut (r ∷ rs) h m = (cut r h.0 m.0, all_cut rs h.1 m.1)

  -- where no row mentions an output, a behaviour meets the rows over their input columns exactly where it meets the rows
  pub meets_fronts : (rows : List Row) → position (mentions_from (length inputs)) rows ≡ None
      → MeetsAll (map (first_columns (length inputs)) rows) (point_over inputs v) ↔ MeetsAll rows (point_over (inputs ++ outputs) v)
  meets_fronts rows h =
      let none = none-list_any (mentions_from (length inputs)) rows (sym (is_some-position (mentions_from (length inputs)) rows) ∙ ap is_some h) in (
        λ m. All-from_recursion Whole rows
            (all_whole rows none (recursion_from_All (λ r. Meets r (point_over inputs v)) (map (first_columns (length inputs)) rows) m)),
        λ m. All-from_recursion (λ r. Meets r (point_over inputs v)) (map (first_columns (length inputs)) rows)
            (all_cut rows none (recursion_from_All Whole rows m)),
      )
