-- What steps that are shown mean: at points, and for the number of rows and of columns.
use Rattle.std.proofs.Common.{◌≡◌, ◌↔◌, refl, sym, ap, subst, ℕ, suc, pred, ◌+◌, ◌≤◌, List, [], ◌∷◌, length, All, arith}
use Rattle.std.proofs.lemmas.List.{length-map}
use Rattle.std.proofs.lemmas.List.Elements.{All-nil, All-weaker}
use lib.IntN.{pos}
use lib.Signed.{◌<ℤ◌}
use Rattle.pa_meaning.specs.Rows.{Row, Point, Meets, MeetsAll}
use Rattle.pa_witness.specs.Certificates.{Dropped, Step}
use Rattle.pa_witness.specs.Thinning.{thinned}
use Rattle.pa_witness.specs.Steps.{Version, Two, stepped}
use Rattle.pa_witness.specs.Columns.{ExtendsAt, projected_columns, ColumnStepsHold}
use Rattle.pa_witness.proofs.ColumnSteps.{columns_exact}
use Rattle.pa_witness.proofs.Fewer.{thinned_fewer}
use Rattle.pa_witness.proofs.Projection.{thinned_met}
use Rattle.pa_witness.proofs.Widths.{stepped_columns, thinned_columns}
use Rattle.pa_elim.specs.Projecting.{Projection}
use Rattle.pa_elim.specs.Meant.{HoldsAsProjected, StepsAreShown, drops_of, rows_by}
use Rattle.pa_elim.specs.Seen.{AreInTurn}

-- ---- several columns
columns_long : (v : Version) (most n : ℕ) (rows : List Row) (ks : List ℕ) (steps : List (List Dropped)) → AreInTurn n ks
    → ColumnStepsHold v most n rows ks steps → All (λ (r : Row). length r.c ≡ n) rows
    → All (λ (r : Row). length r.c + length ks ≡ n) (projected_columns v n rows ks steps)
columns_long v most n rows [] [] turns h long = All-weaker (λ (r : Row). length r.c ≡ n) (λ (r : Row). length r.c + 0 ≡ n) (λ r e. omega (arith, e)) rows long
columns_long v most n rows [] (drops ∷ steps) turns h long = absurd h
columns_long v most n rows (k ∷ ks) [] turns h long = absurd h
columns_long v most n rows (k ∷ ks) (drops ∷ steps) turns h long =
    let new : List Row = thinned (pred n) (stepped v k rows) drops in
    All-weaker (λ (r : Row). length r.c + length ks ≡ pred n) (λ (r : Row). length r.c + suc (length ks) ≡ n)
    (λ r e. let low = turns.0 in omega (arith, e, low)) (projected_columns v (pred n) new ks steps)
    (columns_long v most (pred n) new ks steps turns.1 h.2
    (thinned_columns (pred n) (stepped v k rows) drops (stepped_columns v n k rows turns.0 long)))

columns_few : (v : Version) (most n : ℕ) (rows : List Row) (ks : List ℕ) (steps : List (List Dropped)) → ColumnStepsHold v most n rows ks steps
    → length rows ≤ 4096 → most ≤ 4096 → length (projected_columns v n rows ks steps) ≤ 4096
columns_few v most n rows [] [] h few limit = few
columns_few v most n rows [] (drops ∷ steps) h few limit = absurd h
columns_few v most n rows (k ∷ ks) [] h few limit = absurd h
columns_few v most n rows (k ∷ ks) (drops ∷ steps) h few limit =
    let made = h.0 in
    let thin = thinned_fewer (pred n) (stepped v k rows) drops in
    columns_few v most (pred n) (thinned (pred n) (stepped v k rows) drops) ks steps h.2 (omega (arith, made, thin, limit)) limit

columns_match : (v : Version) (most n : ℕ) (rows : List Row) (ks : List ℕ) (steps : List (List Dropped)) → ColumnStepsHold v most n rows ks steps
    → length steps ≡ length ks
columns_match v most n rows [] [] h = refl
columns_match v most n rows [] (drops ∷ steps) h = absurd h
columns_match v most n rows (k ∷ ks) [] h = absurd h
columns_match v most n rows (k ∷ ks) (drops ∷ steps) h =
    ap suc (columns_match v most (pred n) (thinned (pred n) (stepped v k rows) drops) ks steps h.2)

-- ---- the given rows thinned, and then the columns
module _ (limit n : ℕ) (rows : List Row) (ks : List ℕ) where
  met_by : (steps : List Step) → StepsAreShown limit n rows ks steps → (x : Point) → pos 0 <ℤ x.q
      → MeetsAll (rows_by n rows ks steps) x ↔ ((y : Point) × ExtendsAt ks x y × MeetsAll rows y)
  met_by [] h x up = absurd h
  met_by (s ∷ steps) h x up =
      let all = columns_exact Two limit n (thinned n rows s.drops) ks (drops_of steps) h.1 x up in
      let thin : (y : Point) → pos 0 <ℤ y.q → MeetsAll (thinned n rows s.drops) y ↔ MeetsAll rows y =
      λ y hy. thinned_met n rows [] s.drops y hy h.0 (All-nil (λ r. Meets r y)) in (
        λ m. let (y, e, k) = all.0 m in (y, e, (thin y e.positive).0 k),
        λ (y, e, m). all.1 (y, e, (thin y e.positive).1 m),
      )

  pub projected_met : (p : Projection) → HoldsAsProjected limit n rows ks p → (x : Point) → pos 0 <ℤ x.q
      → MeetsAll p.rows x ↔ ((y : Point) × ExtendsAt ks x y × MeetsAll rows y)
  projected_met p h x up =
      subst (λ (new : List Row). MeetsAll new x ↔ ((y : Point) × ExtendsAt ks x y × MeetsAll rows y)) (sym h.left) (met_by p.steps h.steps x up)

  module _ (columns : All (λ (r : Row). length r.c ≡ n) rows) (few : length rows ≤ 4096) (small : limit ≤ 4096) (turns : AreInTurn n ks) where
    long_by : (steps : List Step) → StepsAreShown limit n rows ks steps → All (λ (r : Row). length r.c + length ks ≡ n) (rows_by n rows ks steps)
    long_by [] h = absurd h
    long_by (s ∷ steps) h =
        columns_long Two limit n (thinned n rows s.drops) ks (drops_of steps) turns h.1 (thinned_columns n rows s.drops columns)

    few_by : (steps : List Step) → StepsAreShown limit n rows ks steps → length (rows_by n rows ks steps) ≤ 4096
    few_by [] h = absurd h
    few_by (s ∷ steps) h =
        let thin = thinned_fewer n rows s.drops in
        columns_few Two limit n (thinned n rows s.drops) ks (drops_of steps) h.1 (omega (arith, thin, few)) small

    count_by : (steps : List Step) → StepsAreShown limit n rows ks steps → length steps ≡ length ks + 1
    count_by [] h = absurd h
    count_by (s ∷ steps) h =
        let same = columns_match Two limit n (thinned n rows s.drops) ks (drops_of steps) h.1 in
        let mapped = length-map steps (λ (t : Step). t.drops) in omega (arith, same, mapped)

    pub projected_long : (p : Projection) → HoldsAsProjected limit n rows ks p → All (λ (r : Row). length r.c + length ks ≡ n) p.rows
    projected_long p h = subst (All (λ (r : Row). length r.c + length ks ≡ n)) (sym h.left) (long_by p.steps h.steps)

    pub projected_few : (p : Projection) → HoldsAsProjected limit n rows ks p → length p.rows ≤ 4096
    projected_few p h = subst (λ (new : List Row). length new ≤ 4096) (sym h.left) (few_by p.steps h.steps)

    pub projected_count : (p : Projection) → HoldsAsProjected limit n rows ks p → length p.steps ≡ length ks + 1
    projected_count p h = count_by p.steps h.steps
