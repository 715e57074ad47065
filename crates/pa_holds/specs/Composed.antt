-- What is printed for a composite, and for hidden outputs, and when it holds as it is printed: by sums alone.
use Rattle.std.specs.Prelude.{◌≡◌, ℕ, List, [], ◌∷◌, length, map, filter, flat_map, not, All, Some, None}
use Rattle.pa_meaning.specs.Rows.{Row}
use Rattle.pa_meaning.specs.Contracts.{Name, Contract, ports}
use Rattle.pa_meaning.specs.Composition.{is_among, external_inputs, kept_outputs, internal_outputs, names_of, guarantees_over}
use Rattle.pa_witness.specs.Thinning.{Dropped, ThinningHolds, thinned}
use Rattle.pa_witness.specs.Steps.{Version}
use Rattle.pa_witness.specs.Projection.{StepsHold, projected}
use Rattle.pa_witness.specs.Discharge.{Discharge, DischargeHolds, discharged, all_discharge_rows}
use Rattle.pa_cert.specs.Lists.{NamedStep, HiddenAnswer, ComposedAnswer}

-- ---- names that are eliminated from rows
-- the drops of the given rows, and those of each step
pub record Elimination : Type 0 where
  pub first : List Dropped
  pub steps : List (List Dropped)

-- the given rows, thinned, and then without the names
abbrev pub eliminated_rows : Version → List Name → List Row → List Name → Elimination → List Row
eliminated_rows v names rows gone e = projected v names (thinned (length names) rows e.first) gone e.steps

pub record EliminationHolds (v : Version) (most : ℕ) (names : List Name) (rows : List Row) (gone : List Name) (e : Elimination)
    : Type 0 where
  pub first : ThinningHolds (length names) rows [] e.first
  pub steps : StepsHold v most names (thinned (length names) rows e.first) gone e.steps

-- the elimination of printed steps
abbrev pub elimination_of : List NamedStep → Elimination
elimination_of [] = record { first = []; steps = [] }
elimination_of (s ∷ ss) = record { first = s.drops; steps = map (λ s. s.drops) ss }

-- a step without a name is printed, and then one for each name that goes, in order
abbrev pub AreNamed : List Name → List NamedStep → Type 0
AreNamed gone steps = map (λ s. s.name) steps ≡ None ∷ map Some gone

-- ---- hidden outputs
pub record HoldsAsHidden (v : Version) (most : ℕ) (c : Contract) (names : List Name) (a : HiddenAnswer) : Type 0 where
  pub named : AreNamed (filter (is_among names) c.outputs) a.steps
  pub elimination : EliminationHolds v most (ports c) c.guarantees (filter (is_among names) c.outputs) (elimination_of a.steps)
  pub contract : a.contract ≡ record {
    inputs = c.inputs;
    outputs = filter (λ name. not (is_among names name)) c.outputs;
    assumptions = c.assumptions;
    guarantees = eliminated_rows v (ports c) c.guarantees (filter (is_among names) c.outputs) (elimination_of a.steps);
  }

-- ---- composites
-- all parts' guarantees over the names of the composition
abbrev pub all_guarantees : List Contract → List Row
all_guarantees parts = flat_map (guarantees_over (names_of parts)) parts

-- what the shifts leave of all parts' assumptions, over the external inputs
abbrev pub shifted_assumptions : List Contract → List Discharge → List Row
shifted_assumptions parts ds = all_discharge_rows (names_of parts) (length (external_inputs parts)) (discharged parts ds)

pub record HoldsAsComposed (v : Version) (most : ℕ) (parts : List Contract) (keep : List Name) (a : ComposedAnswer) : Type 0 where
  pub one_each : length a.discharges ≡ length parts
  pub discharges : All (DischargeHolds (names_of parts) (length (external_inputs parts)) (discharged parts a.discharges)) (discharged parts a.discharges)
  pub thin : ThinningHolds (length (external_inputs parts)) (shifted_assumptions parts a.discharges) [] a.thin
  pub named : AreNamed (internal_outputs parts keep) a.steps
  pub elimination : EliminationHolds v most (names_of parts) (all_guarantees parts) (internal_outputs parts keep)
      (elimination_of a.steps)
  pub contract : a.contract ≡ record {
    inputs = external_inputs parts;
    outputs = kept_outputs parts keep;
    assumptions = thinned (length (external_inputs parts)) (shifted_assumptions parts a.discharges) a.thin;
    guarantees = eliminated_rows v (names_of parts) (all_guarantees parts) (internal_outputs parts keep) (elimination_of a.steps);
  }
