-- One step more: what it answers, that it is what the definitions say, and that the steps go on from there.
use Rattle.std.proofs.Common.{◌≡◌, refl, sym, ap, ◌∙◌, subst, ℕ, suc, pred, ◌+◌, ◌-◌, ◌<◌, ◌≤◌, List, [], ◌∷◌, drop, get_or, length, All, arith}
use Rattle.std.proofs.Common.{◌⊎◌, inl, inr, Result, Ok, Err, IfOk}
use Rattle.std.proofs.lemmas.List.{drop_more}
use Rattle.pa_math.specs.Answers.{IsAnswer, and_then}
use Rattle.pa_math.proofs.Answers.{ok_same}
use Rattle.pa_meaning.specs.Rows.{Row}
use Rattle.pa_witness.specs.Certificates.{Step}
use Rattle.pa_witness.specs.Thinning.{thinned, ThinningHolds}
use Rattle.pa_witness.specs.Steps.{Two, stepped, step_count}
use Rattle.pa_witness.proofs.Fewer.{thinned_fewer}
use Rattle.pa_witness.proofs.Widths.{thinned_columns}
use Rattle.pa_farkas.specs.Alternatives.{IsThinning, Thinning}
use Rattle.pa_elim.specs.declared.fault.ElimFault.{ElimFault}
use Rattle.pa_elim.specs.declared.fault.ElimFault.TheVariants as fault
use Rattle.pa_elim.specs.Projecting.{Projection, after_step, after_steps, made_in, thinned_in, with_step}
use Rattle.pa_elim.specs.Seen.{AreFollowed, AreInTurn, CanStep, IsNext, IsStart}
use Rattle.pa_elim.proofs.Steps.{followed_next, next_can}

-- what holds of the one answer holds of what is answered
pub if_answered : {A E : Type 0} (free : E) (a : A) (r : Result A E) (P : A → Type 0) → IsAnswer free (Ok a) r → P a → IfOk r P
if_answered free a (Ok b) P is h = subst P (ok_same a b is) h
if_answered free a (Err e) P is h = tt

-- ---- the step
-- rows that are made of the given ones, and thinned over one column less
module _ (limit most n step k : ℕ) (given rows made new : List Row) (steps : List Step) (seen : given ≡ rows) (kept : new ≡ made) where
  less : n - 1 ≡ pred n
  less = omega (arith)

  abbrev pub old : Projection
  old = record { rows = rows; steps = steps }

  pub unmade : (e : ElimFault) → (e ≡ fault.Memory) ⊎ (made_in limit step k given ≡ Err e)
      → (e ≡ fault.Memory) ⊎ (after_step limit most n step k old ≡ Err e)
  unmade e (inl free) = inl free
  unmade e (inr is) =
      inr (ap (λ r. and_then r (λ made. and_then (thinned_in (pred n) most step made) (λ t. Ok (with_step steps t))))
      (ap (made_in limit step k) (sym seen) ∙ is))

  module _ (due : made_in limit step k given ≡ Ok made) where
    made_first : (r : Result Thinning ElimFault) → thinned_in (n - 1) most step new ≡ r
        → after_step limit most n step k old ≡ and_then r (λ t. Ok (with_step steps t))
    made_first r is =
        ap (λ r. and_then r (λ made. and_then (thinned_in (pred n) most step made) (λ t. Ok (with_step steps t))))
        (ap (made_in limit step k) (sym seen) ∙ due)
        ∙ ap (λ r. and_then r (λ t. Ok (with_step steps t)))
        (ap (λ m. thinned_in m most step made) (sym less) ∙ ap (thinned_in (n - 1) most step) (sym kept) ∙ is)

    pub unthinned : (e : ElimFault) → (e ≡ fault.Memory) ⊎ (thinned_in (n - 1) most step new ≡ Err e)
        → (e ≡ fault.Memory) ⊎ (after_step limit most n step k old ≡ Err e)
    unthinned e (inl free) = inl free
    unthinned e (inr is) = inr (made_first (Err e) is)

    pub one_more : (t : Thinning) → thinned_in (n - 1) most step new ≡ Ok t → after_step limit most n step k old ≡ Ok (with_step steps t)
    one_more t is = made_first (Ok t) is

  pub next_is : (t : Thinning) → made ≡ stepped Two k given → step_count Two k given ≤ limit → IsThinning (n - 1) new [] t
      → IsNext limit n k old (with_step steps t)
  next_is t is within thin =
      let same : new ≡ stepped Two k rows = kept ∙ is ∙ ap (stepped Two k) seen in
      record {
        drops = t.drops;
        steps = refl;
        within = subst (λ given. step_count Two k given ≤ limit) seen within;
        holds = subst (λ new. ThinningHolds (pred n) new [] t.drops) same (subst (λ m. ThinningHolds m new [] t.drops) less thin.holds);
        left = thin.rows_are ∙ ap (λ m. thinned m new t.drops) less ∙ ap (λ new. thinned (pred n) new t.drops) same;
      }

-- ---- a turn of the steps
module _ (limit most n i k : ℕ) (places : List ℕ) (p : Projection) (here : drop i places ≡ k ∷ drop (i + 1) places) where
  one_down : pred (n - i) ≡ n - (i + 1)
  one_down = omega (arith)

  turn_is : (r : Result Projection ElimFault) → after_step limit most (n - i) (i + 1) k p ≡ r
      → after_steps limit most (n - i) (i + 1) (drop i places) p ≡ and_then r (after_steps limit most (n - (i + 1)) (i + 1 + 1) (drop (i + 1) places))
  turn_is r is =
      ap (λ ks. after_steps limit most (n - i) (i + 1) ks p) here
      ∙ ap (λ r. and_then r (after_steps limit most (pred (n - i)) (suc (i + 1)) (drop (i + 1) places))) is
      ∙ ap (λ m. and_then r (after_steps limit most m (suc (i + 1)) (drop (i + 1) places))) one_down
      ∙ ap (λ s. and_then r (after_steps limit most (n - (i + 1)) s (drop (i + 1) places))) (let one : suc (i + 1) ≡ i + 1 + 1 = omega (arith) in one)

  pub turn_goes_on : (next : Projection) → after_step limit most (n - i) (i + 1) k p ≡ Ok next
      → after_steps limit most (n - i) (i + 1) (drop i places) p ≡ after_steps limit most (n - (i + 1)) (i + 1 + 1) (drop (i + 1) places) next
  turn_goes_on next is = turn_is (Ok next) is

  pub turn_stops : (e : ElimFault) → after_step limit most (n - i) (i + 1) k p ≡ Err e
      → after_steps limit most (n - i) (i + 1) (drop i places) p ≡ Err e
  turn_stops e is = turn_is (Err e) is

  module _ (turns : AreInTurn (n - i) (drop i places)) where
    in_turn_now : AreInTurn (n - i) (k ∷ drop (i + 1) places)
    in_turn_now = subst (AreInTurn (n - i)) here turns

    pub low : k < n - i
    low = in_turn_now.0

    pub turns_left : AreInTurn (n - (i + 1)) (drop (i + 1) places)
    turns_left = subst (λ m. AreInTurn m (drop (i + 1) places)) one_down in_turn_now.1

    pub can_go_on : (next : Projection) → IsNext limit (n - i) k p next → limit ≤ 4096 → CanStep (n - i) p → CanStep (n - (i + 1)) next
    can_go_on next is small can = subst (λ m. CanStep m next) one_down (next_can limit (n - i) k p next is low small can)

  pub leads_on : (next new : Projection) → IsNext limit (n - i) k p next → AreFollowed limit (n - (i + 1)) (drop (i + 1) places) next new
      → AreFollowed limit (n - i) (drop i places) p new
  leads_on next new is f =
      subst (λ ks. AreFollowed limit (n - i) ks p new) (sym here)
      (followed_next limit (n - i) k (drop (i + 1) places) p next new is
      (subst (λ m. AreFollowed limit m (drop (i + 1) places) next new) (sym one_down) f))

-- a turn comes while columns are left, of which there are few
pub early : (n i : ℕ) (places : List ℕ) → i < length places → AreInTurn (n - i) (drop i places) → i < n
early n i places here turns =
    let now : AreInTurn (n - i) (get_or places i 0 ∷ drop (i + 1) places) = subst (AreInTurn (n - i)) (drop_more places i 0 here) turns in
    let low = now.0 in omega (arith, low)

pub soon : (n i : ℕ) (places : List ℕ) → n ≤ 128 → i < length places → AreInTurn (n - i) (drop i places) → i < 128
soon n i places short here turns = let before = early n i places here turns in omega (arith, before, short)

-- the first step can be made of the given rows
pub start_can : (n : ℕ) (rows : List Row) (p : Projection) → IsStart n rows p → All (λ (r : Row). length r.c ≡ n) rows → length rows ≤ 4096 → n ≤ 128
    → CanStep n p
start_can n rows p is columns few short = record {
  columns = subst (All (λ (r : Row). length r.c ≡ n)) (sym is.left) (thinned_columns n rows is.drops columns);
  few = subst (λ (new : List Row). length new ≤ 4096) (sym is.left) (let fewer = thinned_fewer n rows is.drops in omega (arith, few, fewer));
  short = short;
}
