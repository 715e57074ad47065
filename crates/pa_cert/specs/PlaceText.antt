-- The texts of the places where an operation stopped: a task, its problem and a spot.
use Rattle.std.specs.Prelude.{ℕ, List, [], ◌++◌, codes, decimal}
use Rattle.pa_row.specs.declared.place.Group.{Group}
use Rattle.pa_row.specs.declared.place.Group.TheVariants.{Thin, Step}
use Rattle.pa_row.specs.declared.place.Task.{Task}
use Rattle.pa_row.specs.declared.place.Task.TheVariants.{Sum, Cover, Goal, Nominal, Shift, Whole, Clean, Filter, Pairs}
use Rattle.pa_row.specs.declared.place.Sub.{Sub}
use Rattle.pa_row.specs.declared.place.Sub.TheVariants.{Main, Base}
use Rattle.pa_row.specs.declared.place.Spot.{Spot}
use Rattle.pa_row.specs.declared.place.Spot.TheVariants.{Load, Pivot, Read, Check}
use Rattle.pa_row.specs.declared.place.Place.{Place}

-- the thinned rows, or the number of a step
abbrev pub group_text : Group → List ℕ
group_text Thin = codes "thin"
group_text (Step k) = decimal k

-- a word, and numbers with a space between
abbrev pub one_text : List ℕ → ℕ → List ℕ
one_text word a = word ++ decimal a

abbrev pub two_text : List ℕ → ℕ → ℕ → List ℕ
two_text word a b = word ++ decimal a ++ codes " " ++ decimal b

abbrev pub three_text : List ℕ → ℕ → ℕ → ℕ → List ℕ
three_text word a b c = word ++ decimal a ++ codes " " ++ decimal b ++ codes " " ++ decimal c

-- a word, a group, and the number of its row
abbrev pub in_group_text : List ℕ → Group → ℕ → List ℕ
in_group_text word group row = word ++ group_text group ++ codes " " ++ decimal row

abbrev pub task_text : Task → List ℕ
task_text (Sum row) = one_text (codes "row ") row
task_text (Cover row) = one_text (codes "cover ") row
task_text Goal = codes "goal"
task_text Nominal = codes "nominal"
task_text (Shift round part row) = three_text (codes "shift ") round part row
task_text (Whole part row) = two_text (codes "whole ") part row
task_text (Clean group row) = in_group_text (codes "clean ") group row
task_text (Filter group row) = in_group_text (codes "filter ") group row
task_text (Pairs step row) = two_text (codes "pairs ") step row

-- the problem of a task
abbrev pub sub_text : Sub → List ℕ
sub_text Main = codes "a"
sub_text Base = codes "b"

abbrev pub spot_text : Spot → List ℕ
spot_text Load = codes "load"
spot_text (Pivot pivot row column) = three_text (codes "pivot ") pivot row column
spot_text Read = codes "read"
spot_text Check = codes "check"

-- the problem and the spot, behind the task
abbrev pub problem_text : Place → List ℕ
problem_text place = codes " " ++ sub_text place.sub ++ codes " " ++ spot_text place.spot

-- what stands behind a task: nothing where it has no problem
abbrev pub behind_text : Task → Place → List ℕ
behind_text (Sum row) place = []
behind_text (Cover row) place = problem_text place
behind_text Goal place = problem_text place
behind_text Nominal place = []
behind_text (Shift round part row) place = problem_text place
behind_text (Whole part row) place = problem_text place
behind_text (Clean group row) place = []
behind_text (Filter group row) place = problem_text place
behind_text (Pairs step row) place = []

abbrev pub place_text : Place → List ℕ
place_text place = task_text place.task ++ behind_text place.task place

-- ---- lines

-- a number passes 126 bits
abbrev pub too_wide_line : Place → List ℕ
too_wide_line place = codes "refused wide " ++ place_text place ++ codes "\n"

-- a word, a task, and the problem of it that was solved last
abbrev pub task_line : List ℕ → Task → Sub → List ℕ
task_line word task part = word ++ task_text task ++ codes " " ++ sub_text part ++ codes "\n"
