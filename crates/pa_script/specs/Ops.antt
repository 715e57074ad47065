-- What a line names.
use Rattle.std.specs.Prelude.{◌≡◌, ◌≤◌, List, [], ◌∷◌, length, Option, Some, None, pos, ◌<ℤ◌}
use Rattle.std.specs.List.{IsDistinct}
use Rattle.std.specs.Str.{bytes_eq}
use Rattle.pa_meaning.specs.Contracts.{Name}
use Rattle.pa_meaning.specs.Rows.{Point}
use Rattle.pa_row.specs.Steps.{IsLimit}
use Rattle.pa_grammar.specs.Plains.{Linear}
use Rattle.pa_script.specs.declared.op.Op.{Op}
use Rattle.pa_script.specs.declared.op.ScriptLine.{ScriptLine}
use Rattle.pa_script.specs.declared.lines.TheConstants.{MOST_PARTS}
use Rattle.pa_script.specs.declared.op.Op.TheVariants.{LimitRows, LimitPivots, Merge, Test, Refine, Bound, Hide, Compose, Quotient}

-- the contracts that an operation works on, in the order in which the line names them
abbrev pub operands : Op → List Name
operands (LimitRows most) = []
operands (LimitPivots most) = []
operands (Merge result left right) = left ∷ right ∷ []
operands (Test of names at) = of ∷ []
operands (Refine left right) = left ∷ right ∷ []
operands (Bound of least goal) = of ∷ []
operands (Hide result of names) = of ∷ []
operands (Compose result parts keep) = parts
operands (Quotient result whole part) = whole ∷ part ∷ []

-- the name of its result, where it has one
abbrev pub result_of : Op → Option Name
result_of (LimitRows most) = None
result_of (LimitPivots most) = None
result_of (Merge result left right) = Some result
result_of (Test of names at) = None
result_of (Refine left right) = None
result_of (Bound of least goal) = None
result_of (Hide result of names) = Some result
result_of (Compose result parts keep) = Some result
result_of (Quotient result whole part) = Some result

-- the names of a point are different, and it has a number for each, over a positive denominator
pub record IsPointOf (names : List Name) (at : Point) : Type 0 where
  pub distinct : IsDistinct bytes_eq names
  pub numbers : length at.p ≡ length names
  pub positive : pos 0 <ℤ at.q

-- the names of a goal are different, and it has a coefficient for each, over a positive denominator
pub record IsGoal (goal : Linear) : Type 0 where
  pub distinct : IsDistinct bytes_eq goal.names
  pub numbers : length goal.c ≡ length goal.names
  pub positive : pos 0 <ℤ goal.q

-- What is true of each operation that is read: a limit is in its range, no name stands twice in a point, a goal or a list of
-- outputs, a hiding has a name, and a composition 1 to 32 parts.
abbrev pub IsWellFormedOp : Op → Type 0
IsWellFormedOp (LimitRows most) = IsLimit most
IsWellFormedOp (LimitPivots most) = IsLimit most
IsWellFormedOp (Merge result left right) = Unit {0}
IsWellFormedOp (Test of names at) = IsPointOf names at
IsWellFormedOp (Refine left right) = Unit {0}
IsWellFormedOp (Bound of least goal) = IsGoal goal
IsWellFormedOp (Hide result of names) = IsDistinct bytes_eq names × (1 ≤ length names)
IsWellFormedOp (Compose result parts keep) = IsDistinct bytes_eq keep × (1 ≤ length parts) × (length parts ≤ MOST_PARTS)
IsWellFormedOp (Quotient result whole part) = Unit {0}

-- what is true of each line that is read: its number counts from 1
pub record IsWellFormedLine (line : ScriptLine) : Type 0 where
  pub number : 1 ≤ line.number
  pub op : IsWellFormedOp line.op
