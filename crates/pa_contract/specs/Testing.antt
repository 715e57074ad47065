-- A contract at a point: a word for each row, and whether the point keeps the contract.
use Rattle.std.specs.Prelude.{ℕ, List, ◌++◌, map, ℤ, pos, ◌*ℤ◌, ◌<ℤ◌, int_le, Bool, not, ◌||◌, Decides, Result, Ok, Err, is_err, position}
use Rattle.std.specs.List.{list_all, AllZip}
use Rattle.pa_ring.specs.Sums.{dot}
use Rattle.pa_math.specs.Answers.{given}
use Rattle.pa_meaning.specs.Rows.{Row, Point, Meets, MeetsAll}
use Rattle.pa_meaning.specs.Contracts.{Contract, ports, Behaviour, behaviour_of, Extends, Keeps}
use Rattle.pa_row.specs.Sums.{meets_in}
use Rattle.pa_row.specs.declared.place.Place.{Place}
use Rattle.pa_row.specs.declared.place.Task.TheVariants.{Sum}
use Rattle.pa_row.specs.declared.place.Sub.TheVariants.{Main}
use Rattle.pa_row.specs.declared.place.Spot.TheVariants.{Check}
use Rattle.pa_contract.specs.declared.fault.TestFault.{TestFault}
use Rattle.pa_contract.specs.declared.fault.TestFault.TheVariants.{Wide}

-- a word for each row, and whether the contract is kept
pub record Tested : Type 0 where
  pub keeps : Bool
  pub assumptions : List Bool
  pub guarantees : List Bool

-- whether the point meets the row
abbrev pub is_met : Point → Row → Bool
is_met x r = int_le (dot r.c x.p) (r.b *ℤ x.q)

-- whether a sum of the row passes 126 bits at the point
abbrev pub passes_at : Point → Row → Bool
passes_at x r = is_err (meets_in r x)

-- where a row is tested
abbrev pub sum_place : ℕ → Place
sum_place row = record { task = Sum row; sub = Main; spot = Check }

-- where all assumptions are met, all guarantees are
abbrev pub keeps_word : List Bool → List Bool → Bool
keeps_word assumptions guarantees = not (list_all (λ b. b) assumptions) || list_all (λ b. b) guarantees

abbrev pub words_of : List Row → List Row → Point → Tested
words_of assumptions guarantees x = record {
  keeps = keeps_word (map (is_met x) assumptions) (map (is_met x) guarantees);
  assumptions = map (is_met x) assumptions;
  guarantees = map (is_met x) guarantees;
}

-- the words, or the first row whose sums pass, where the rows are numbered through
abbrev pub rows_tested : List Row → List Row → Point → Result Tested TestFault
rows_tested assumptions guarantees x =
    given (Ok (words_of assumptions guarantees x)) (position (passes_at x) (assumptions ++ guarantees)) (λ row. Err (Wide (sum_place row)))

-- the contract at a point
abbrev pub tested : Contract → Point → Result Tested TestFault
tested c x = rows_tested c.assumptions c.guarantees x

-- each word says whether the point meets its row, and the first one whether it keeps the contract
pub record IsTested (c : Contract) (x : Point) (t : Tested) : Type 0 where
  pub assumptions : AllZip (λ r word. Decides word (Meets r x)) c.assumptions t.assumptions
  pub guarantees : AllZip (λ r word. Decides word (Meets r x)) c.guarantees t.guarantees
  pub keeps : Decides t.keeps (MeetsAll c.assumptions x → MeetsAll c.guarantees x)

-- a behaviour with the point's fractions at the ports keeps the contract exactly where the word says so
abbrev pub SaysOfBehaviours : Contract → Point → Tested → Type 0
SaysOfBehaviours c x t = (up : pos 0 <ℤ x.q) (v : Behaviour) → Extends (ports c) (behaviour_of (ports c) x up) v → Decides t.keeps (Keeps c v)
