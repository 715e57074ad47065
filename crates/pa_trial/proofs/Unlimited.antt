-- Where the problem of a shift has no more bases than the limit of pivots, no trial uses the pivots up.
use Rattle.std.proofs.Common.{◌≡◌, refl, sym, subst, ℕ, suc, ◌-◌, List, [], ◌∷◌, length, All, inr, Err}
use Rattle.std.proofs.lemmas.List.Elements.{All-head, All-tail}
use Rattle.pa_meaning.specs.Rows.{Row}
use Rattle.pa_row.specs.declared.place.Halt.TheVariants as halt
use Rattle.pa_farkas.specs.FewBases.{HasFewBases, IsNotLimited}
use Rattle.pa_farkas.proofs.Unlimited.{next_not_limited, value_not_limited}
use Rattle.pa_shift.specs.declared.shifting.Shifted.{Shifted}
use Rattle.pa_shift.specs.declared.shifting.Shifted.TheVariants.{Term, Ray}
use Rattle.pa_shift.specs.Shifting.{Premises, shifted_of}
use Rattle.pa_shift.proofs.Unlimited.{shifted_unlimited}
use Rattle.pa_trial.specs.declared.trial.Trial.TheVariants.{Through, Stopped}
use Rattle.pa_trial.specs.declared.trial.Turn.{Turn}
use Rattle.pa_trial.specs.Lefts.{Lefts}
use Rattle.pa_trial.specs.Trying.{after_shift, task_of, tried_from, tried_of, with_left}

module _ (premises : Premises) (most : ℕ) (turn : Turn) (part n : ℕ)
    (few : HasFewBases (length premises.rows) (n - length premises.nominal.p) most) where
  tried_on : (i : ℕ) (lefts : Lefts) (ts : List Row) → All (λ (t : Row). length t.c ≡ n) ts → IsNotLimited (tried_from premises most turn part i lefts ts)
  tried_on i lefts [] long = value_not_limited (Through lefts)
  tried_on i lefts (t ∷ ts) long =
      next_not_limited (shifted_of premises t most (task_of turn part i))
      (after_shift (length premises.nominal.p) i lefts (λ more. tried_from premises most turn part (suc i) more ts))
      (λ place h. shifted_unlimited premises t most (task_of turn part i) (Err (halt.PivotLimit place)) (inr h)
      (subst (λ k. HasFewBases (length premises.rows) (k - length premises.nominal.p) most) (sym (All-head (λ (t : Row). length t.c ≡ n) t ts long)) few)
      place refl)
      (by (λ more. tried_on (suc i) more ts (All-tail (λ (t : Row). length t.c ≡ n) t ts long)))
    where
      by : ((more : Lefts) → IsNotLimited (tried_from premises most turn part (suc i) more ts)) → (s : Shifted)
          → IsNotLimited (after_shift (length premises.nominal.p) i lefts (λ more. tried_from premises most turn part (suc i) more ts) s)
      by rest (Term row w) = rest (with_left (length premises.nominal.p) lefts row w)
      by rest (Ray d) = value_not_limited (Stopped i d)

  pub tried_not_limited : (ts : List Row) → All (λ (t : Row). length t.c ≡ n) ts → IsNotLimited (tried_of premises most turn part ts)
  tried_not_limited ts long = tried_on 0 (record { rows = []; weights = [] }) ts long
