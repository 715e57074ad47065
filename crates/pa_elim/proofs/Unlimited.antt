-- Where neither the given rows nor as many as each step can make have more bases than the limit of pivots, no elimination uses the pivots up.
use Rattle.std.proofs.Common.{◌≡◌, inl, inr, refl, sym, ap, ◌∙◌, subst, ℕ, zero, suc, pred, ◌+◌, ◌<◌, ◌≤◌, min, List, [], ◌∷◌, length, All, arith}
use Rattle.std.proofs.Common.{Bool, true, false, cond, nat_lt, Result, Ok, Err}
use Rattle.std.proofs.lemmas.List.Elements.{All-nil}
use Rattle.pa_math.specs.Answers.{IsAnswer, and_then, told_as}
use Rattle.pa_meaning.specs.Rows.{Row}
use Rattle.pa_witness.specs.Steps.{Two, stepped, step_count}
use Rattle.pa_witness.proofs.Fewer.{thinned_fewer}
use Rattle.pa_witness.proofs.Widths.{stepped_columns}
use Rattle.pa_row.specs.declared.place.Place.{Place}
use Rattle.pa_row.specs.declared.place.Group.TheVariants as group
use Rattle.pa_row.specs.declared.place.Halt.{Halt}
use Rattle.pa_row.specs.declared.place.Halt.TheVariants as halt
use Rattle.pa_fourier.specs.StepFaults.{step_in}
use Rattle.pa_fourier.specs.declared.fault.StepFault.{StepFault}
use Rattle.pa_fourier.specs.declared.fault.StepFault.TheVariants as stepping
use Rattle.pa_farkas.specs.Alternatives.{Thinning}
use Rattle.pa_farkas.specs.Answered.{thinned_of}
use Rattle.pa_farkas.specs.FewBases.{HasFewBases, IsNotLimited}
use Rattle.pa_farkas.proofs.Defined.{Holds}
use Rattle.pa_farkas.proofs.FilterTurns.{can_start}
use Rattle.pa_farkas.proofs.Unlimited.{fewer_bases, thinned_unlimited}
use Rattle.pa_elim.specs.declared.fault.ElimFault.{ElimFault}
use Rattle.pa_elim.specs.declared.fault.ElimFault.TheVariants as fault
use Rattle.pa_elim.specs.Projecting.{Projection, after_step, after_steps, elim_fault, eliminated_of, in_turn, made_in, pairs_fault, start_of, thinned_in}
use Rattle.pa_elim.specs.Projecting.{with_step}
use Rattle.pa_elim.specs.FewBases.{HaveFewBases, most_made}
use Rattle.pa_elim.specs.Meant.{AreColumns}
use Rattle.pa_elim.specs.Seen.{AreInTurn, CanStep, IsNext, IsStart}
use Rattle.pa_elim.proofs.Steps.{next_can}
use Rattle.pa_elim.proofs.InTurn.{length-in_turn_after}
use Rattle.pa_elim.proofs.Pairs.{more_made, step_makes_few}
use Rattle.pa_elim.proofs.Gone.{places_fit}
use Rattle.pa_elim.proofs.Defined.{IsElimFault, IsMade, made_is, start_is, step_is}

err_same : {A E : Type 0} (x y : E) → (let r : Result A E = Err x in r) ≡ Err y → x ≡ y
err_same x y h = cc

-- ---- with fewer rows at first there are fewer bases in each step
fewer_rows : (fewer rows columns gone limit most : ℕ) → fewer ≤ rows → HaveFewBases rows columns gone limit most
    → HaveFewBases fewer columns gone limit most
fewer_rows fewer rows columns zero limit most less bases = fewer_bases fewer rows columns most less bases
fewer_rows fewer rows columns (suc gone) limit most less bases =
    let made = more_made fewer rows less in (
      fewer_bases fewer rows columns most less bases.0,
      fewer_rows (min limit (most_made fewer)) (min limit (most_made rows)) (pred columns) gone limit most (omega (arith, made)) bases.1,
    )

-- those of the first list are few
first_few : (rows columns gone limit most : ℕ) → HaveFewBases rows columns gone limit most → HasFewBases rows columns most
first_few rows columns zero limit most bases = bases
first_few rows columns (suc gone) limit most bases = bases.0

-- ---- how many rows a step makes, and leaves
made_few : (limit k rows : ℕ) (old : List Row) → length old ≤ rows → step_count Two k old ≤ limit → step_count Two k old ≤ min limit (most_made rows)
made_few limit k rows old less within =
    let some = step_makes_few k old in
    let more = more_made (length old) rows less in omega (arith, some, more, within)

next_few : (limit n k rows : ℕ) (old next : Projection) → IsNext limit n k old next → length old.rows ≤ rows
    → length next.rows ≤ min limit (most_made rows)
next_few limit n k rows old next is less =
    let fewer = thinned_fewer (pred n) (stepped Two k old.rows) is.drops in
    let made = made_few limit k rows old.rows less is.within in
    subst (λ (new : List Row). length new ≤ min limit (most_made rows)) (sym is.left) (omega (arith, fewer, made))

-- ---- a step
module _ (limit most : ℕ) (place : Place) where
  -- the pivots were used up here
  abbrev IsLimited : {A : Type 0} → Result A ElimFault → Type 0
  IsLimited r = r ≡ Err (fault.PivotLimit place)

  -- nothing that makes rows uses pivots
  made_unlimited : (step k : ℕ) (rows : List Row) → IsLimited (made_in limit step k rows) → ⊥
  made_unlimited step k rows = by (nat_lt limit (step_count Two k rows))
    where
      sums : (r : Result (List Row) StepFault) → IsLimited (told_as (pairs_fault step) r) → ⊥
      sums (Ok new) h = cc
      sums (Err stepping.Memory) h = cc
      sums (Err (stepping.Wide row)) h = cc

      by : (b : Bool)
          → IsLimited (cond b (Err (fault.RowLimit step (step_count Two k rows))) (told_as (pairs_fault step) (step_in Two k rows))) → ⊥
      by true h = cc
      by false h = sums (step_in Two k rows) h

  told_unlimited : (r : Result Thinning Halt) → IsNotLimited r → IsLimited (told_as elim_fault r) → ⊥
  told_unlimited (Ok t) not h = cc
  told_unlimited (Err halt.Memory) not h = cc
  told_unlimited (Err (halt.PivotLimit p)) not h = not p refl
  told_unlimited (Err (halt.Wide p)) not h = cc

  thin_unlimited : (n step : ℕ) (rows : List Row) → All (λ (r : Row). length r.c ≡ n) rows → length rows ≤ 4096 → n ≤ 128
      → HasFewBases (length rows) n most → IsLimited (thinned_in n most step rows) → ⊥
  thin_unlimited n step rows columns few short bases =
      told_unlimited (thinned_of n rows [] most (group.Step step)) (λ place h.
      thinned_unlimited n rows [] most (group.Step step) (Err (halt.PivotLimit place)) (inr h)
      (can_start n rows [] columns (All-nil (λ (r : Row). length r.c ≡ n)) (omega (arith, few)) short)
      (subst (λ m. HasFewBases m n most) same bases) place refl)
    where
      same : length rows ≡ length rows + 0
      same = omega arith

  -- a step makes no more rows than it can, nor than the limit
  step_unlimited : limit ≤ 4096 → (n step k rows : ℕ) (p : Projection) → CanStep n p → k < n → length p.rows ≤ rows
      → HasFewBases (min limit (most_made rows)) (pred n) most → IsLimited (after_step limit most n (suc step) k p) → ⊥
  step_unlimited small n step k rows p can low less bases =
      by (made_in limit (suc step) k p.rows) (made_is limit most 0 (suc step) n step k p.rows can.columns (omega arith))
      (made_unlimited (suc step) k p.rows)
    where
      thin : (r : Result Thinning ElimFault) → (IsLimited r → ⊥) → IsLimited (and_then r (λ t. Ok (with_step p.steps t))) → ⊥
      thin (Ok t) not h = cc
      thin (Err e) not h = not (ap Err (err_same {A = Projection} e (fault.PivotLimit place) h))

      by : (r : Result (List Row) ElimFault) → Holds (IsMade limit most 0 (suc step) k p.rows) (IsElimFault limit most 0 (suc step)) r
          → (IsLimited r → ⊥)
          → IsLimited (and_then r (λ made. and_then (thinned_in (pred n) most (suc step) made) (λ t. Ok (with_step p.steps t)))) → ⊥
      by (Ok new) h not =
          let count : length new ≤ min limit (most_made rows) =
          subst (λ (new : List Row). length new ≤ min limit (most_made rows)) (sym h.ok.0) (made_few limit k rows p.rows less h.ok.1) in
          thin (thinned_in (pred n) most (suc step) new)
          (thin_unlimited (pred n) (suc step) new
          (subst (All (λ (r : Row). length r.c ≡ pred n)) (sym h.ok.0) (stepped_columns Two n k p.rows low can.columns))
          (omega (arith, count, small)) (omega (arith, can.short)) (fewer_bases (length new) (min limit (most_made rows)) (pred n) most count bases))
      by (Err e) h not = λ limited. not (ap Err (err_same {A = Projection} e (fault.PivotLimit place) limited))

  -- ---- steps one after another
  steps_unlimited : limit ≤ 4096 → (n step rows : ℕ) (ks : List ℕ) (p : Projection) → CanStep n p → AreInTurn n ks → length p.rows ≤ rows
      → HaveFewBases rows n (length ks) limit most → IsLimited (after_steps limit most n (suc step) ks p) → ⊥
  steps_unlimited small n step rows [] p can turns less bases = λ h. cc
  steps_unlimited small n step rows (k ∷ ks) p can turns less bases =
      by (after_step limit most n (suc step) k p) (step_is limit most 0 (suc step) small n step k p can turns.0 (omega arith))
      (step_unlimited small n step k rows p can turns.0 less
      (first_few (min limit (most_made rows)) (pred n) (length ks) limit most bases.1))
      (λ next is. steps_unlimited small (pred n) (suc step) (min limit (most_made rows)) ks next (next_can limit n k p next is turns.0 small can) turns.1
      (next_few limit n k rows p next is less) bases.1)
    where
      by : (r : Result Projection ElimFault) → Holds (IsNext limit n k p) (IsElimFault limit most 0 (suc step)) r → (IsLimited r → ⊥)
          → ((next : Projection) → IsNext limit n k p next → IsLimited (after_steps limit most (pred n) (suc (suc step)) ks next) → ⊥)
          → IsLimited (and_then r (λ next. after_steps limit most (pred n) (suc (suc step)) ks next)) → ⊥
      by (Ok next) h not rest = rest next h.ok
      by (Err e) h not rest = λ limited. not (ap Err (err_same {A = Projection} e (fault.PivotLimit place) limited))

-- ---- an elimination
module _ (limit most n : ℕ) (gone : List ℕ) (rows : List Row) (small : limit ≤ 4096) (columns : All (λ (r : Row). length r.c ≡ n) rows)
    (few : length rows ≤ 4096) (short : n ≤ 128) (are : AreColumns n gone)
    (bases : HaveFewBases (length rows) n (length gone) limit most) where
  turns : AreInTurn n (in_turn gone)
  turns = places_fit n gone (in_turn gone) are refl

  start_unlimited : (place : Place) → start_of n most rows ≡ Err (fault.PivotLimit place) → ⊥
  start_unlimited place = by (thinned_in n most 0 rows) (thin_unlimited limit most place n 0 rows columns few short
      (first_few (length rows) n (length gone) limit most bases))
    where
      by : (r : Result Thinning ElimFault) → (r ≡ Err (fault.PivotLimit place) → ⊥)
          → and_then r (λ t. Ok (with_step [] t)) ≡ Err (fault.PivotLimit place) → ⊥
      by (Ok t) not h = cc
      by (Err e) not h = not (ap Err (err_same {A = Projection} e (fault.PivotLimit place) h))

  start_few : (start : Projection) → IsStart n rows start → length start.rows ≤ length rows
  start_few start is = subst (λ (new : List Row). length new ≤ length rows) (sym is.left) (thinned_fewer n rows is.drops)

  pub eliminated_not_limited : (place : Place) → eliminated_of limit most n gone rows ≡ Err (fault.PivotLimit place) → ⊥
  eliminated_not_limited place =
      by (start_of n most rows) (start_is limit most n rows (in_turn gone) small columns few short turns) (start_unlimited place)
    where
      by : (r : Result Projection ElimFault)
          → Holds (λ p. IsStart n rows p × CanStep n p) (IsElimFault limit most (length rows) (length (in_turn gone))) r
          → (r ≡ Err (fault.PivotLimit place) → ⊥)
          → and_then r (after_steps limit most n 1 (in_turn gone)) ≡ Err (fault.PivotLimit place) → ⊥
      by (Ok start) h not = steps_unlimited limit most place small n 0 (length rows) (in_turn gone) start h.ok.1 turns (start_few start h.ok.0)
          (subst (λ count. HaveFewBases (length rows) n count limit most) (sym (length-in_turn_after [] gone)) bases)
      by (Err e) h not = λ limited. not (ap Err (err_same {A = Projection} e (fault.PivotLimit place) limited))

  -- the answers of the call
  pub eliminated_unlimited : (result : Result Projection ElimFault) → IsAnswer fault.Memory (eliminated_of limit most n gone rows) result
      → (place : Place) → result ≡ Err (fault.PivotLimit place) → ⊥
  eliminated_unlimited (Ok p) answer place h = cc
  eliminated_unlimited (Err e) (inl free) place h = wrong (sym free ∙ err_same {A = Projection} e (fault.PivotLimit place) h)
    where
      wrong : fault.Memory ≡ fault.PivotLimit place → ⊥
      wrong h = cc
  eliminated_unlimited (Err e) (inr is) place h = eliminated_not_limited place (is ∙ h)
