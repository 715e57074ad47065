-- The answers to questions about contracts: which are true, and which hold as they are printed.
use Rattle.std.specs.Prelude.{◌≡◌, ◌≢◌, ℕ, List, length, map, filter, Option, Some, None, Ok, pos, ◌<ℤ◌, Decides, All}
use Rattle.std.specs.List.{AllZip, IsDistinct}
use Rattle.std.specs.Str.{bytes_eq}
use Rattle.pa_meaning.specs.Rows.{Meets}
use Rattle.pa_meaning.specs.Contracts.{Name, Contract, ports, Behaviour, behaviour_of, point_over, Keeps}
use Rattle.pa_meaning.specs.Refinement.{Refines, BreaksAssumption, BreaksGuarantee}
use Rattle.pa_meaning.specs.Bounds.{IsBestValue, IsUnbounded, HasNoBehaviour}
use Rattle.pa_meaning.specs.Composition.{is_among, all_outputs, internal_outputs, IsHidden, IsComposite, Stuck, IsStuckForGood, IsCircle}
use Rattle.pa_meaning.specs.Quotient.{IsQuotient, IsStuckGuarantee}
use Rattle.pa_witness.specs.Steps.{Version}
use Rattle.pa_holds.specs.Refined.{HoldsAsRefining, HoldsAsBreakingAssumption, HoldsAsBreakingGuarantee}
use Rattle.pa_holds.specs.Bounded.{over_columns, HoldsAsValue, HoldsAsUnbounded, HoldsAsNothing}
use Rattle.pa_holds.specs.Composed.{HoldsAsHidden, HoldsAsComposed}
use Rattle.pa_holds.specs.Divided.{HoldsAsDivided}
use Rattle.pa_meaning.specs.Merge.{IsMerge}
use Rattle.pa_contract.specs.Merge.{merged, merge_of}
use Rattle.pa_contract.specs.Testing.{Tested, keeps_word}
use Rattle.pa_script.specs.Ops.{IsPointOf, IsGoal}
use Rattle.pa_cert.specs.Lists.{Located, Heading, StuckRow}
use Rattle.pa_cert.specs.Tables.{Limits}
use Rattle.pa_cert.specs.declared.refusal.NameRefusal.{NameRefusal}
use Rattle.pa_cert.specs.declared.answer.Answer.{Answer}
use Rattle.pa_cert.specs.declared.answer.Answer.TheVariants.{Merged, TestedAs, Yes, NoAssumption, NoGuarantee, Value, Unbounded, Nothing}
use Rattle.pa_cert.specs.declared.answer.Answer.TheVariants.{Hidden, Composed, Divided, Refused, NoMultipliers, NoMultipliersFor, Circle}
use Rattle.pa_cert.specs.declared.answer.Answer.TheVariants.{RowLimit, PivotLimit, TooWide}
use Rattle.pa_holds.specs.Limits.{LimitFits, PivotsFit, PlaceFits}
use Rattle.pa_holds.specs.Questions.{Question, Merging, Testing, Refining, Bounding, Hiding, Composing, Dividing}
use Rattle.pa_holds.specs.Refusals.{due_merge, due_test, due_refine, due_bound, due_hide, due_compose, due_quotient}

-- the refusal by name that is due first
abbrev pub due : Question → Option NameRefusal
due (Merging c other) = due_merge c other
due (Testing c names x) = due_test c names
due (Refining c other) = due_refine c other
due (Bounding c goal least) = due_bound c goal.names
due (Hiding c names) = due_hide c names
due (Composing parts keep) = due_compose parts keep
due (Dividing whole part) = due_quotient whole part

-- ---- parts of both
-- the printed contract is the one that the definition gives, and so the merge
pub record IsMergeResult (c other m : Contract) : Type 0 where
  pub computed : merge_of c other ≡ Ok m
  pub meaning : IsMerge c other m

-- each word says whether the behaviour meets its row, and the first one whether it keeps the contract
pub record IsTestOf (c : Contract) (v : Behaviour) (t : Tested) : Type 0 where
  pub assumptions : AllZip (λ r word. Decides word (Meets r (point_over c.inputs v))) c.assumptions t.assumptions
  pub guarantees : AllZip (λ r word. Decides word (Meets r (point_over (ports c) v))) c.guarantees t.guarantees
  pub keeps : Decides t.keeps (Keeps c v)

-- the first word follows from the others
pub record HoldsAsTested (c : Contract) (v : Behaviour) (t : Tested) : Type 0 where
  pub assumptions : AllZip (λ r word. Decides word (Meets r (point_over c.inputs v))) c.assumptions t.assumptions
  pub guarantees : AllZip (λ r word. Decides word (Meets r (point_over (ports c) v))) c.guarantees t.guarantees
  pub keeps : t.keeps ≡ keeps_word t.assumptions t.guarantees

-- the direction names some of the columns, in their order, each with a number other than 0
pub record IsAlong (columns : List Name) (h : Heading) : Type 0 where
  pub names : h.names ≡ filter (is_among h.names) columns
  pub numbers : length h.numbers ≡ length h.names
  pub nonzero : All (λ n. n ≢ pos 0) h.numbers

abbrev pub stuck_over : List Contract → StuckRow → Stuck
stuck_over parts s = record { part = s.part; row = s.row; direction = over_columns (all_outputs parts) s.direction }

-- the point gives each port a value
pub record GivesEach (c : Contract) (p : Located) : Type 0 where
  pub distinct : IsDistinct bytes_eq p.names
  pub ports : (n : Name) → is_among p.names n ≡ is_among (ports c) n
  pub numbers : length p.at.p ≡ length p.names
  pub positive : pos 0 <ℤ p.at.q

abbrev pub behaviour_at : (c : Contract) (p : Located) → GivesEach c p → Behaviour
behaviour_at c p g = behaviour_of p.names p.at g.positive

-- ---- true
-- Of a limit that was met, and of a number that is too wide, only this is said: the operation has such a place, with numbers that
-- are in its ranges under some limits. A port that the point of a test does not name has 0 there, as `behaviour_of` says.
abbrev pub IsTrue : Question → Answer → Type 0
IsTrue question (PivotLimit task part) = (most : Limits) × PivotsFit most question task part
IsTrue question (TooWide place) = (most : Limits) × PlaceFits most question place
IsTrue (Merging c other) (Merged m) = IsMergeResult c other m
IsTrue (Testing c names x) (TestedAs t) = (up : pos 0 <ℤ x.q) × IsTestOf c (behaviour_of names x up) t
IsTrue (Refining c other) (Yes assumptions guarantees) = Refines c other
IsTrue (Refining c other) (NoAssumption row p) = (g : GivesEach c p) × BreaksAssumption c other row (behaviour_at c p g)
IsTrue (Refining c other) (NoGuarantee row p) = (g : GivesEach c p) × BreaksGuarantee c other row (behaviour_at c p g)
IsTrue (Bounding c goal least) (Value num den w p) = IsBestValue c goal least num den
IsTrue (Bounding c goal least) (Unbounded p h) = IsUnbounded c goal least
IsTrue (Bounding c goal least) (Nothing w) = HasNoBehaviour c
IsTrue (Hiding c names) (Hidden a) = IsHidden c names a.contract
IsTrue (Hiding c names) (RowLimit step count) = (most : ℕ) × LimitFits most (filter (is_among names) c.outputs) step count
IsTrue (Composing parts keep) (Composed a) = IsComposite parts keep a.contract
IsTrue (Composing parts keep) (RowLimit step count) = (most : ℕ) × LimitFits most (internal_outputs parts keep) step count
IsTrue (Composing parts keep) (NoMultipliers s) = IsStuckForGood parts (stuck_over parts s)
IsTrue (Composing parts keep) (Circle ss) = IsCircle parts (map (stuck_over parts) ss)
IsTrue (Dividing whole part) (Divided a) = IsQuotient whole part a.contract a.narrow
IsTrue (Dividing whole part) (NoMultipliersFor row h) = IsStuckGuarantee whole part row (over_columns part.outputs h)
IsTrue question answer = ⊥

-- a refusal by name is true where it is the one that is due; any other answer where none is due and it is true
abbrev pub IsTrueAnswer : Question → Answer → Type 0
IsTrueAnswer question (Refused r) = due question ≡ Some r
IsTrueAnswer question answer = (due question ≡ None) × IsTrue question answer

-- ---- as printed
abbrev pub Holds : Version → Limits → Question → Answer → Type 0
Holds v most question (PivotLimit task part) = PivotsFit most question task part
Holds v most question (TooWide place) = PlaceFits most question place
Holds v most (Merging c other) (Merged m) = m ≡ merged c other
Holds v most (Testing c names x) (TestedAs t) = (up : pos 0 <ℤ x.q) × HoldsAsTested c (behaviour_of names x up) t
Holds v most (Refining c other) (Yes assumptions guarantees) = HoldsAsRefining c other assumptions guarantees
Holds v most (Refining c other) (NoAssumption row p) = HoldsAsBreakingAssumption c other row p
Holds v most (Refining c other) (NoGuarantee row p) = HoldsAsBreakingGuarantee c other row p
Holds v most (Bounding c goal least) (Value num den w p) = HoldsAsValue c goal least num den w p
Holds v most (Bounding c goal least) (Unbounded p h) = HoldsAsUnbounded c goal least p h × IsAlong (ports c) h
Holds v most (Bounding c goal least) (Nothing w) = HoldsAsNothing c w
Holds v most (Hiding c names) (Hidden a) = HoldsAsHidden v most.rows c names a
Holds v most (Hiding c names) (RowLimit step count) = LimitFits most.rows (filter (is_among names) c.outputs) step count
Holds v most (Composing parts keep) (Composed a) = HoldsAsComposed v most.rows parts keep a
Holds v most (Composing parts keep) (RowLimit step count) = LimitFits most.rows (internal_outputs parts keep) step count
Holds v most (Composing parts keep) (NoMultipliers s) = IsStuckForGood parts (stuck_over parts s) × IsAlong (all_outputs parts) s.direction
Holds v most (Composing parts keep) (Circle ss) = IsCircle parts (map (stuck_over parts) ss) × All (λ s. IsAlong (all_outputs parts) s.direction) ss
Holds v most (Dividing whole part) (Divided a) = HoldsAsDivided whole part a
Holds v most (Dividing whole part) (NoMultipliersFor row h) = IsStuckGuarantee whole part row (over_columns part.outputs h) × IsAlong part.outputs h
Holds v most question answer = ⊥

-- the answer holds as it is printed, by the rule of the report's version and the limits in force
abbrev pub HoldsAsPrinted : Version → Limits → Question → Answer → Type 0
HoldsAsPrinted v most question (Refused r) = due question ≡ Some r
HoldsAsPrinted v most question answer = (due question ≡ None) × Holds v most question answer

-- what is true of the contracts, the goal and the point of a question: no name stands twice, and a goal and a point have a number
-- for each name, over a positive one
abbrev pub IsWellAsked : Question → Type 0
IsWellAsked (Merging c other) = IsDistinct bytes_eq (ports c) × IsDistinct bytes_eq (ports other)
IsWellAsked (Testing c names x) = IsDistinct bytes_eq (ports c) × IsPointOf names x
IsWellAsked (Refining c other) = IsDistinct bytes_eq (ports c) × IsDistinct bytes_eq (ports other)
IsWellAsked (Bounding c goal least) = IsDistinct bytes_eq (ports c) × IsGoal goal
IsWellAsked (Hiding c names) = IsDistinct bytes_eq (ports c)
IsWellAsked (Composing parts keep) = All (λ p. IsDistinct bytes_eq (ports p)) parts
IsWellAsked (Dividing whole part) = IsDistinct bytes_eq (ports whole) × IsDistinct bytes_eq (ports part)
