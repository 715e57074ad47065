-- What the answers mean, and what holds of them as they are printed.
use Rattle.std.specs.Prelude.{◌≡◌, Bool, List, length, ℤ, pos, ◌≤ℤ◌, ◌<ℤ◌, All}
use Rattle.pa_ring.specs.Sums.{dot}
use Rattle.pa_meaning.specs.Rows.{Point, MeetsAll}
use Rattle.pa_meaning.specs.Contracts.{Contract, ports, behaviour_of}
use Rattle.pa_meaning.specs.Refinement.{Refines, BreaksAssumption, BreaksGuarantee}
use Rattle.pa_meaning.specs.Bounds.{Goal, IsBestValue, IsUnbounded, HasNoBehaviour}
use Rattle.pa_row.specs.declared.step.Broken.TheVariants.{Assumption, Guarantee}
use Rattle.pa_cert.specs.Lists.{Located}
use Rattle.pa_holds.specs.Refined.{IsAt, HoldsAsRefining, HoldsAsBreakingAssumption, HoldsAsBreakingGuarantee}
use Rattle.pa_holds.specs.Bounded.{all_rows, goal_row, GetsBetter, HoldsAsValue, HoldsAsNothing}
use Rattle.pa_refine.specs.declared.answer.Refined.{Refined}
use Rattle.pa_refine.specs.declared.answer.Refined.TheVariants.{Yes, No}
use Rattle.pa_refine.specs.declared.answer.Bounded.{Bounded}
use Rattle.pa_refine.specs.declared.answer.Bounded.TheVariants.{Value, Unbounded, Nothing}

-- a point over the ports, with their names
abbrev pub at_ports : Contract → Point → Located
at_ports c x = record { names = ports c; at = x }

-- ---- refinement
-- the contract refines the other one, or the behaviour that the point is breaks a row
abbrev pub IsTrueOfRefining : Contract → Contract → Refined → Type 0
IsTrueOfRefining c other (Yes assumptions guarantees) = Refines c other
IsTrueOfRefining c other (No (Assumption row) x) = (up : pos 0 <ℤ x.q) × BreaksAssumption c other row (behaviour_of (ports c) x up)
IsTrueOfRefining c other (No (Guarantee row) x) = (up : pos 0 <ℤ x.q) × BreaksGuarantee c other row (behaviour_of (ports c) x up)

-- the weights and the point show it, as they are printed
abbrev pub HoldsAsRefined : Contract → Contract → Refined → Type 0
HoldsAsRefined c other (Yes assumptions guarantees) = HoldsAsRefining c other assumptions guarantees
HoldsAsRefined c other (No (Assumption row) x) = HoldsAsBreakingAssumption c other row (at_ports c x)
HoldsAsRefined c other (No (Guarantee row) x) = HoldsAsBreakingGuarantee c other row (at_ports c x)

-- ---- bounds
abbrev pub IsTrueOfBounding : Contract → Goal → Bool → Bounded → Type 0
IsTrueOfBounding c goal least (Value num den w x) = IsBestValue c goal least num den
IsTrueOfBounding c goal least (Unbounded x d) = IsUnbounded c goal least
IsTrueOfBounding c goal least (Nothing w) = HasNoBehaviour c

-- From the point, which meets all rows, no row rises along the direction, and the goal gets better. The direction has a number for each port.
pub record HoldsAlong (c : Contract) (goal : Goal) (least : Bool) (x : Point) (d : List ℤ) : Type 0 where
  pub at : IsAt (ports c) (at_ports c x)
  pub met : MeetsAll (all_rows c) x
  pub columns : length d ≡ length (ports c)
  pub level : All (λ r. dot r.c d ≤ℤ pos 0) (all_rows c)
  pub better : GetsBetter least (goal_row c goal) d

abbrev pub HoldsAsBounded : Contract → Goal → Bool → Bounded → Type 0
HoldsAsBounded c goal least (Value num den w x) = HoldsAsValue c goal least num den w (at_ports c x)
HoldsAsBounded c goal least (Unbounded x d) = HoldsAlong c goal least x d
HoldsAsBounded c goal least (Nothing w) = HoldsAsNothing c w
