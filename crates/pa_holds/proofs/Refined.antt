-- What holds as printed is true: refinement.
use Rattle.std.proofs.Common.{◌≡◌, sym, subst, ℕ, List, [], ◌∷◌, ◌++◌, length}
use Rattle.std.proofs.lemmas.List.Elements.{All-nil, All-cons, All-append, Contains-append_left, Contains-append_right, Contains-append_cases}
use Rattle.std.specs.List.{IsDistinct}
use Rattle.std.specs.Str.{bytes_eq}
use lib.IntN.{pos}
use lib.Signed.{◌<ℤ◌}
use mathlib.Core.Logic.{⊎_elim}
use Rattle.pa_ring.specs.Choices.{SameElements}
use Rattle.pa_ring.proofs.Lists.{All-append_left, All-append_right}
use Rattle.pa_meaning.specs.Rows.{Row, Point, Meets, MeetsAll, Breaks, row_at}
use Rattle.pa_meaning.specs.Weights.{Weights}
use Rattle.pa_meaning.specs.Contracts.{Contract, ports, Behaviour, point_over, over_names, behaviour_of}
use Rattle.pa_meaning.specs.Composition.{assumptions_over, guarantees_over}
use Rattle.pa_meaning.specs.Refinement.{Refines, BreaksAssumption, BreaksGuarantee}
use Rattle.pa_meaning.proofs.Farkas.{Meets-proved}
use Rattle.pa_meaning.proofs.PartRows.{FitsNames, Meets-over_names, assumptions_met, guarantees_met}
use Rattle.pa_meaning.proofs.Moves.{among_from, point_is, row_at-map}
use Rattle.pa_math.proofs.Unions.{IsDistinct-left, All-parts}
use Rattle.std.specs.List.{list_any}
use Rattle.std.proofs.Common.{true}
use Rattle.pa_cert.specs.Lists.{Located}
use Rattle.pa_holds.specs.Refined.{ProveEach, HoldsAsRefining, IsAt, HoldsAsBreakingAssumption, HoldsAsBreakingGuarantee}

-- a point that meets the rows meets each row that is proved
pub each_met : (rows asked : List Row) (ws : List Weights) (x : Point) → pos 0 <ℤ x.q → ProveEach rows asked ws → MeetsAll rows x → MeetsAll asked x
each_met rows [] [] x up h met = All-nil (λ r. Meets r x)
each_met rows [] (w ∷ ws) x up h met = absurd h
each_met rows (t ∷ asked) [] x up h met = absurd h
each_met rows (t ∷ asked) (w ∷ ws) x up h met = All-cons (λ r. Meets r x) t asked (Meets-proved w rows t x up h.0 met) (each_met rows asked ws x up h.1 met)

module _ (c other : Contract) (dc : IsDistinct bytes_eq (ports c)) (dr : IsDistinct bytes_eq (ports other)) (inputs : SameElements c.inputs other.inputs)
    (outputs : SameElements c.outputs other.outputs) where
  own_fits : FitsNames (ports c) c
  own_fits = record { distinct = dc; among = among_from (ports c) (ports c) (λ n i. i) }

  other_fits : FitsNames (ports c) other
  other_fits = record {
    distinct = dr;
    among = among_from (ports other) (ports c) (λ n i.
        ⊎_elim (λ j. Contains-append_left c.inputs c.outputs n ((inputs n).1 j)) (λ j. Contains-append_right c.inputs c.outputs n ((outputs n).1 j))
        (Contains-append_cases other.inputs other.outputs n i));
  }

  -- A yes that holds as printed is a refinement.
  pub refining_is_true : (assumptions guarantees : List Weights) → HoldsAsRefining c other assumptions guarantees → Refines c other
  refining_is_true assumptions guarantees h = record {
    inputs = inputs;
    outputs = outputs;
    assumptions = λ v a. (assumptions_met (ports c) c v dc own_fits).0
        (each_met (assumptions_over (ports c) other) (assumptions_over (ports c) c) assumptions (point_over (ports c) v) v.positive h.assumptions
        ((assumptions_met (ports c) other v dc other_fits).1 a));
    guarantees = λ v a g. (guarantees_met (ports c) other v dc other_fits).0
        (each_met (assumptions_over (ports c) other ++ c.guarantees) (guarantees_over (ports c) other) guarantees (point_over (ports c) v) v.positive
        h.guarantees
        (All-append (λ r. Meets r (point_over (ports c) v)) (assumptions_over (ports c) other) c.guarantees
        ((assumptions_met (ports c) other v dc other_fits).1 a) g));
  }

  -- the point as a behaviour
  abbrev here : (p : Located) → IsAt (ports c) p → Behaviour
  here p at = behaviour_of (ports c) p.at at.positive

  here_is : (p : Located) (at : IsAt (ports c) p) → p.at ≡ point_over (ports c) (here p at)
  here_is p at = sym (point_is (ports c) p.at at.positive dc (subst (λ ns. length p.at.p ≡ length ns) at.names at.numbers))

  -- A point that holds as printed shows that c does not refine the other.
  pub breaking_assumption_is_true : (row : ℕ) (p : Located) → (h : HoldsAsBreakingAssumption c other row p) → BreaksAssumption c other row (here p h.at)
  breaking_assumption_is_true row p h = record {
    place = h.place;
    assumed = (assumptions_met (ports c) other (here p h.at) dc other_fits).0 (subst (MeetsAll (assumptions_over (ports c) other)) (here_is p h.at) h.met);
    broken = λ m. subst (λ r. Breaks r (point_over (ports c) (here p h.at))) (row_at-map (over_names c.inputs (ports c)) c.assumptions row h.place)
        (subst (Breaks (row_at (assumptions_over (ports c) c) row)) (here_is p h.at) h.broken)
        ((Meets-over_names c.inputs (ports c) (here p h.at) (IsDistinct-left bytes_eq c.inputs c.outputs dc) dc
        (All-parts (λ n. list_any (bytes_eq n) (ports c) ≡ true) c.inputs c.outputs own_fits.among).0 (row_at c.assumptions row)).1 m);
  }

  pub breaking_guarantee_is_true : (row : ℕ) (p : Located) → (h : HoldsAsBreakingGuarantee c other row p) → BreaksGuarantee c other row (here p h.at)
  breaking_guarantee_is_true row p h = record {
    place = h.place;
    assumed = (assumptions_met (ports c) other (here p h.at) dc other_fits).0
        (All-append_left (λ r. Meets r (point_over (ports c) (here p h.at))) (assumptions_over (ports c) other) c.guarantees
        (subst (MeetsAll (assumptions_over (ports c) other ++ c.guarantees)) (here_is p h.at) h.met));
    guaranteed = All-append_right (λ r. Meets r (point_over (ports c) (here p h.at))) (assumptions_over (ports c) other) c.guarantees
        (subst (MeetsAll (assumptions_over (ports c) other ++ c.guarantees)) (here_is p h.at) h.met);
    broken = λ m. subst (λ r. Breaks r (point_over (ports c) (here p h.at))) (row_at-map (over_names (ports other) (ports c)) other.guarantees row h.place)
        (subst (Breaks (row_at (guarantees_over (ports c) other) row)) (here_is p h.at) h.broken)
        ((Meets-over_names (ports other) (ports c) (here p h.at) dr dc other_fits.among (row_at other.guarantees row)).1 m);
  }
