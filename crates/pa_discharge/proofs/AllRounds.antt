-- Rounds follow one another: those that are left give from here what all give from the start.
use Rattle.std.proofs.Common.{◌≡◌, ◌∙◌, ap, ap₂, refl, sym, subst, ℕ, zero, suc, ◌+◌, ◌-◌, ◌<◌, ◌≤◌, ◌⊎◌, inl, inr, List, [], ◌∷◌, length, All, arith}
use Rattle.std.proofs.Common.{Option, None, Result, Ok, Err, replicate, add-one, true, false}
use Rattle.std.specs.Prelude.{if◌then◌else◌}
use Rattle.std.proofs.lemmas.List.{length-replicate}
use Rattle.std.proofs.lemmas.List.Elements.{All-nil, All-cons}
use Rattle.pa_math.specs.Answers.{and_then}
use Rattle.pa_meaning.specs.Rows.{Point}
use Rattle.pa_meaning.specs.Contracts.{Name, Contract}
use Rattle.pa_meaning.specs.Composition.{external_inputs, names_of}
use Rattle.pa_discharge.specs.declared.fault.DischargeFault.{DischargeFault}
use Rattle.pa_discharge.specs.declared.fault.DischargeFault.TheVariants as fault
use Rattle.pa_discharge.specs.Rounds.{Brought}
use Rattle.pa_discharge.specs.Discharging.{Asked, are_discharged, brought_of, discharged_rows, round_in, rounds_from}
use Rattle.pa_discharge.specs.Seen.{Composition, Discharging, IsBefore, IsStanding, start_of}

-- ---- the start
none_rows : (names : List Name) (ps : List Contract) (n : ℕ) → discharged_rows names ps (replicate n None) ≡ []
none_rows names [] n = refl
none_rows names (p ∷ ps) zero = refl
none_rows names (p ∷ ps) (suc n) = none_rows names ps n

none_before : (round n : ℕ) → All (IsBefore round) (replicate n None)
none_before round zero = All-nil (IsBefore round)
none_before round (suc n) = All-cons (IsBefore round) None (replicate n None) tt (none_before round n)

-- at the start no part is discharged
pub start_stands : (c : Composition) (x : Point) (d : Discharging) → length x.p ≡ length (external_inputs c.parts) → d ≡ start_of (length c.parts) x
    → IsStanding c 0 d
start_stands c x d nominal is = subst (IsStanding c 0) (sym is) (record {
  parts = length-replicate (length c.parts) None;
  rows = sym (none_rows (names_of c.parts) c.parts (length c.parts));
  nominal = nominal;
  rounds = none_before 0 (length c.parts);
})

-- ---- the rounds
module _ (asked : Asked) where
  -- from the start on as many are left as there are parts
  pub rounds_start : (x : Point) (d : Discharging) → d ≡ start_of (length asked.parts) x
      → brought_of asked ≡ rounds_from asked 0 (length asked.parts - 0) d.brought
  rounds_start x d is =
      let all : length asked.parts ≡ length asked.parts - 0 = omega arith in
      ap₂ (rounds_from asked 0) all (ap (λ (e : Discharging). e.brought) (sym is))

  -- where all parts are discharged no round follows
  pub rounds_done : (round left : ℕ) (bs : List (Option Brought)) → are_discharged bs ≡ true → rounds_from asked round left bs ≡ Ok bs
  rounds_done round zero bs done = refl
  rounds_done round (suc left) bs done =
      ap (λ t. if t then Ok bs else and_then (round_in asked round bs) (rounds_from asked (suc round) left)) done

  -- nor where none is left
  pub rounds_end : (round n : ℕ) (bs : List (Option Brought)) → n ≤ round → rounds_from asked round (n - round) bs ≡ Ok bs
  rounds_end round n bs past =
      let none : n - round ≡ 0 = omega (arith, past) in ap (λ left. rounds_from asked round left bs) none

  module _ (round n : ℕ) (bs : List (Option Brought)) (less : round < n) (not_done : are_discharged bs ≡ false) where
    round_here : rounds_from asked round (n - round) bs ≡ and_then (round_in asked round bs) (rounds_from asked (round + 1) (n - (round + 1)))
    round_here =
        let more : n - round ≡ suc (n - (round + 1)) = omega (arith, less) in
        ap (λ left. rounds_from asked round left bs) more
        ∙ ap (λ t. if t then Ok bs else and_then (round_in asked round bs) (rounds_from asked (suc round) (n - (round + 1)))) not_done
        ∙ ap (λ k. and_then (round_in asked round bs) (rounds_from asked k (n - (round + 1)))) (sym (add-one round))

    pub rounds_more : (next : List (Option Brought)) → round_in asked round bs ≡ Ok next
        → rounds_from asked round (n - round) bs ≡ rounds_from asked (round + 1) (n - (round + 1)) next
    rounds_more next turn = round_here ∙ ap (λ r. and_then r (rounds_from asked (round + 1) (n - (round + 1)))) turn

    pub rounds_stop : (answer : Result (List (Option Brought)) DischargeFault) (f : DischargeFault) → answer ≡ rounds_from asked round (n - round) bs
        → (f ≡ fault.Memory) ⊎ (round_in asked round bs ≡ Err f) → (f ≡ fault.Memory) ⊎ (answer ≡ Err f)
    rounds_stop answer f same (inl memory) = inl memory
    rounds_stop answer f same (inr stopped) = inr
        (same ∙ round_here ∙ ap (λ r. and_then r (rounds_from asked (round + 1) (n - (round + 1)))) stopped)
