-- A round turns to one part after another: the turns of the rest give from here what all give from the start.
use Rattle.std.proofs.Common.{◌≡◌, ◌∙◌, ap, ap₂, refl, sym, subst, add-one, ℕ, suc, ◌+◌, ◌≤◌, ◌⊎◌, inl, inr, List, [], ◌∷◌, length, drop, All, arith}
use Rattle.std.proofs.Common.{Option, Some, None, Result, Ok, Err, slice_get, length-append}
use Rattle.std.proofs.lemmas.Option.{slice_get_within, get_or_from_slice_get}
use Rattle.std.proofs.lemmas.List.{drop_all}
use Rattle.std.proofs.lemmas.List.Elements.{All-get_or}
use Rattle.pa_math.specs.Answers.{and_then, given}
use Rattle.pa_meaning.specs.Rows.{Row}
use Rattle.pa_meaning.specs.Directions.{Stuck}
use Rattle.pa_row.specs.declared.place.Halt.{Halt}
use Rattle.pa_row.specs.declared.place.Halt.TheVariants as halt
use Rattle.pa_contract.proofs.Steps.{drop-slice_get}
use Rattle.pa_shift.specs.Shifting.{Premises}
use Rattle.pa_discharge.specs.Rounds.{Brought, AfterRound}
use Rattle.pa_trial.specs.declared.trial.Trial.{Trial}
use Rattle.pa_trial.specs.declared.trial.Trial.TheVariants.{Through, Stopped}
use Rattle.pa_trial.specs.declared.trial.Turn.TheVariants.{InRound}
use Rattle.pa_trial.specs.Trying.{tried_of}
use Rattle.pa_discharge.specs.Discharging.{after_trial, round_from, turn_of, whole_from, whole_turn}

-- what holds of each element holds of the one at a place
pub All-at : {A : Type 0} (P : A → Type 0) (xs : List A) (i : ℕ) (x : A) → slice_get xs i ≡ Some x → All P xs → P x
All-at P xs i x at h = subst P (get_or_from_slice_get xs i x x at) (All-get_or P xs i x (slice_get_within xs i x at) h)

-- what a turn's halt is to the whole
pub stops : {A T : Type 0} (answer from : Result A Halt) (turn : Result T Halt) (h : Halt) → answer ≡ from → (turn ≡ Err h → from ≡ Err h)
    → (h ≡ halt.Memory) ⊎ (turn ≡ Err h) → (h ≡ halt.Memory) ⊎ (answer ≡ Err h)
stops answer from turn h same ends (inl memory) = inl memory
stops answer from turn h same ends (inr stopped) = inr (same ∙ ends stopped)

-- one more stands, and one fewer is left
pub one_fewer : {A : Type 0} (b : A) (left rest : List A) (n m all : ℕ) → left ≡ b ∷ rest → m ≡ n + 1 → n + length left ≡ all → m + length rest ≡ all
one_fewer b left rest n m all here more count =
    let longer : length left ≡ suc (length rest) = ap length here in
    omega (arith, longer, more, count)

Ok_is : {A : Type 0} (a b : A) (r : Result A Halt) → r ≡ Ok a → r ≡ Ok b → a ≡ b
Ok_is a b r e f = cc

-- a turn stands one part more
pub turn_stands : (premises : Premises) (most round part : ℕ) (rows : List Row) (r : AfterRound) (b : Option Brought) (next : AfterRound)
    → turn_of premises most round part rows r b ≡ Ok next → length next.brought ≡ length r.brought + 1
turn_stands premises most round part rows r (Some b) next turn =
    ap (λ n. length n.brought) (sym (Ok_is _ next (Ok _) refl turn)) ∙ length-append r.brought (Some b ∷ [])
turn_stands premises most round part rows r None next turn = by (tried_of premises most (InRound round) part rows) turn
  where
    by : (t : Result Trial Halt) → and_then t (λ trial. Ok (after_trial round part r trial)) ≡ Ok next → length next.brought ≡ length r.brought + 1
    by (Err h) e = absurd (cc)
    by (Ok (Through lefts)) e = ap (λ n. length n.brought) (sym (Ok_is _ next (Ok _) refl e))
        ∙ length-append r.brought (Some (record { round = round; lefts = lefts }) ∷ [])
    by (Ok (Stopped i d)) e = ap (λ n. length n.brought) (sym (Ok_is _ next (Ok _) refl e)) ∙ length-append r.brought (None ∷ [])

module _ (premises : Premises) (most : ℕ) (terms : List (List Row)) (part : ℕ) (rows : List Row) (at : slice_get terms part ≡ Some rows) where
  -- ---- over all parts' guarantees
  module _ (bs : List (Option Brought)) (b : Option Brought) (stands : slice_get bs part ≡ Some b) where
    whole_here : whole_from premises most part (drop part terms) (drop part bs)
        ≡ and_then (whole_turn premises most part rows b)
        (λ found. given (whole_from premises most (suc part) (drop (part + 1) terms) (drop (part + 1) bs)) found (λ stuck. Ok (Some stuck)))
    whole_here = ap₂ (whole_from premises most part) (drop-slice_get terms part rows at) (drop-slice_get bs part b stands)

    abbrev after : Result (Option Stuck) Halt → Result (Option Stuck) Halt
    after found = and_then found
        (λ found. given (whole_from premises most (suc part) (drop (part + 1) terms) (drop (part + 1) bs)) found (λ stuck. Ok (Some stuck)))

    pub whole_more : whole_turn premises most part rows b ≡ Ok None
        → whole_from premises most part (drop part terms) (drop part bs)
        ≡ whole_from premises most (part + 1) (drop (part + 1) terms) (drop (part + 1) bs)
    whole_more turn = whole_here ∙ ap after turn
        ∙ ap (λ k. whole_from premises most k (drop (part + 1) terms) (drop (part + 1) bs)) (sym (add-one part))

    pub whole_found : (stuck : Stuck) → whole_turn premises most part rows b ≡ Ok (Some stuck)
        → whole_from premises most part (drop part terms) (drop part bs) ≡ Ok (Some stuck)
    whole_found stuck turn = whole_here ∙ ap after turn

    pub whole_halted : (halt : Halt) → whole_turn premises most part rows b ≡ Err halt
        → whole_from premises most part (drop part terms) (drop part bs) ≡ Err halt
    whole_halted halt turn = whole_here ∙ ap after turn

  -- ---- over the guarantees of the parts that are discharged
  module _ (round : ℕ) (r : AfterRound) (b : Option Brought) (rest : List (Option Brought)) where
    round_here : round_from premises most round part (drop part terms) r (b ∷ rest)
        ≡ and_then (turn_of premises most round part rows r b) (λ next. round_from premises most round (suc part) (drop (part + 1) terms) next rest)
    round_here = ap (λ ts. round_from premises most round part ts r (b ∷ rest)) (drop-slice_get terms part rows at)

    pub round_more : (next : AfterRound) → turn_of premises most round part rows r b ≡ Ok next
        → round_from premises most round part (drop part terms) r (b ∷ rest)
        ≡ round_from premises most round (part + 1) (drop (part + 1) terms) next rest
    round_more next turn = round_here
        ∙ ap (λ t. and_then t (λ next. round_from premises most round (suc part) (drop (part + 1) terms) next rest)) turn
        ∙ ap (λ k. round_from premises most round k (drop (part + 1) terms) next rest) (sym (add-one part))

    pub round_halted : (halt : Halt) → turn_of premises most round part rows r b ≡ Err halt
        → round_from premises most round part (drop part terms) r (b ∷ rest) ≡ Err halt
    round_halted halt turn = round_here
        ∙ ap (λ t. and_then t (λ next. round_from premises most round (suc part) (drop (part + 1) terms) next rest)) turn

-- past the last part no part is found
pub whole_past : (premises : Premises) (most part : ℕ) (terms : List (List Row)) (bs : List (Option Brought)) → length bs ≤ part
    → whole_from premises most part (drop part terms) (drop part bs) ≡ Ok None
whole_past premises most part terms bs past = ap (whole_from premises most part (drop part terms)) (drop_all part bs past) ∙ by (drop part terms)
  where
    by : (ts : List (List Row)) → whole_from premises most part ts [] ≡ Ok None
    by [] = refl
    by (t ∷ ts) = refl

pub round_past : (premises : Premises) (most round part : ℕ) (terms : List (List Row)) (r : AfterRound) (left : List (Option Brought)) → length left ≡ 0
    → round_from premises most round part terms r left ≡ Ok r
round_past premises most round part terms r (b ∷ left) none = absurd (cc)
round_past premises most round part [] r [] none = refl
round_past premises most round part (t ∷ ts) r [] none = refl

-- the place of a turn is the number of the parts before it
pub round_goes_on : (premises : Premises) (most round part : ℕ) (terms : List (List Row)) (rows : List Row) (r next : AfterRound) (b : Option Brought)
    (left rest : List (Option Brought)) (answer : Result AfterRound Halt) → part ≡ length r.brought → slice_get terms part ≡ Some rows → left ≡ b ∷ rest
    → turn_of premises most round part rows r b ≡ Ok next
    → answer ≡ round_from premises most round (length r.brought) (drop (length r.brought) terms) r left
    → answer ≡ round_from premises most round (length next.brought) (drop (length next.brought) terms) next rest
round_goes_on premises most round part terms rows r next b left rest answer is at here turn so_far =
    so_far ∙ ap₂ (λ k l. round_from premises most round k (drop k terms) r l) (sym is) here
    ∙ round_more premises most terms part rows at round r b rest next turn
    ∙ ap (λ k. round_from premises most round k (drop k terms) next rest)
    (ap (λ k. k + 1) is ∙ sym (turn_stands premises most round part rows r b next turn))

pub round_stops : (premises : Premises) (most round part : ℕ) (terms : List (List Row)) (rows : List Row) (r : AfterRound) (b : Option Brought)
    (left rest : List (Option Brought)) (answer : Result AfterRound Halt) (h : Halt) → part ≡ length r.brought → slice_get terms part ≡ Some rows
    → left ≡ b ∷ rest → answer ≡ round_from premises most round (length r.brought) (drop (length r.brought) terms) r left
    → (h ≡ halt.Memory) ⊎ (turn_of premises most round part rows r b ≡ Err h) → (h ≡ halt.Memory) ⊎ (answer ≡ Err h)
round_stops premises most round part terms rows r b left rest answer h is at here so_far =
    stops answer (round_from premises most round part (drop part terms) r (b ∷ rest)) (turn_of premises most round part rows r b) h
    (so_far ∙ ap₂ (λ k l. round_from premises most round k (drop k terms) r l) (sym is) here)
    (round_halted premises most terms part rows at round r b rest h)
