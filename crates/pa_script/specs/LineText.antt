-- The canonical text of a line: its words with single spaces, and each fraction in lowest terms.
use Rattle.std.specs.Prelude.{ℕ, ◌+◌, ◌/◌, ◌==◌, ◌&&◌, List, [], ◌∷◌, ◌++◌, length, codes, decimal, Bool, true, false, ℤ, unsigned_abs, if◌then◌else◌}
use Rattle.std.specs.Int.{is_negative}
use Rattle.pa_math.specs.Divisors.{gcd_of}
use Rattle.pa_ring.specs.Sums.{number_at}
use Rattle.pa_meaning.specs.Contracts.{Name}
use Rattle.pa_meaning.specs.Rows.{Point}
use Rattle.pa_grammar.specs.Plains.{Linear}
use Rattle.pa_script.specs.declared.op.Op.{Op}
use Rattle.pa_script.specs.declared.op.ScriptLine.{ScriptLine}
use Rattle.pa_script.specs.declared.op.Op.TheVariants.{LimitRows, LimitPivots, Merge, Test, Refine, Bound, Hide, Compose, Quotient}

-- a fraction of two numbers without a common divisor; a denominator of 1 is left out
abbrev pub lowest_text : ℕ → ℕ → List ℕ
lowest_text n d = if d == 1 then decimal n else decimal n ++ codes "/" ++ decimal d

-- a fraction in lowest terms
abbrev pub ratio_text : ℕ → ℕ → List ℕ
ratio_text n d = lowest_text (n / gcd_of n d) (d / gcd_of n d)

-- ---- values of points

abbrev pub minus_text : ℤ → List ℕ
minus_text n = if is_negative n then codes "-" else []

-- a fraction with its sign, of two numbers without a common divisor
abbrev pub fraction_text : ℤ → ℤ → List ℕ
fraction_text n d = minus_text n ++ lowest_text (unsigned_abs n) (unsigned_abs d)

-- one value, as ` x=-3/2`
abbrev pub value_text : Name → ℤ → ℤ → List ℕ
value_text name p q = codes " " ++ name ++ codes "=" ++ minus_text p ++ ratio_text (unsigned_abs p) (unsigned_abs q)

-- the values of the names, the first of which has the number at a place
abbrev pub values_text : ℕ → List Name → Point → List ℕ
values_text place [] at = []
values_text place (name ∷ names) at = value_text name (number_at at.p place) at.q ++ values_text (place + 1) names at

-- ---- expressions

-- what stands before a term: its sign, with spaces round it after the first one
abbrev pub sign_text : Bool → ℤ → List ℕ
sign_text true c = minus_text c
sign_text false c = if is_negative c then codes " - " else codes " + "

-- a magnitude of 1 is left out
abbrev pub magnitude_text : ℕ → ℕ → List ℕ
magnitude_text n d = if n == d then [] else ratio_text n d ++ codes " "

-- a term with coefficient 0 has no text
abbrev pub term_text : Bool → Name → ℤ → ℤ → List ℕ
term_text first name c q = if unsigned_abs c == 0 then [] else sign_text first c ++ magnitude_text (unsigned_abs c) (unsigned_abs q) ++ name

-- the constant, where it is not 0, or `0` where nothing stands before it
abbrev pub constant_text : Bool → ℤ → ℤ → List ℕ
constant_text first b q = if unsigned_abs b == 0 then (if first then codes "0" else []) else sign_text first b ++ ratio_text (unsigned_abs b) (unsigned_abs q)

-- the terms of the names, the first of which has the coefficient at a place, and the constant; `first` says that no term stands yet
abbrev pub terms_text : Bool → ℕ → List Name → Linear → List ℕ
terms_text first place [] goal = constant_text first goal.b goal.q
terms_text first place (name ∷ names) goal =
    term_text first name (number_at goal.c place) goal.q ++ terms_text (first && (unsigned_abs (number_at goal.c place) == 0)) (place + 1) names goal

abbrev pub goal_text : Linear → List ℕ
goal_text goal = terms_text true 0 goal.names goal

-- ---- lines

-- words with a space before each
abbrev pub word_text : List ℕ → List ℕ
word_text word = codes " " ++ word

abbrev pub words_text : List Name → List ℕ
words_text [] = []
words_text (word ∷ words) = word_text word ++ words_text words

-- the words `R = A B` behind a verb
abbrev pub three_text : List ℕ → Name → Name → Name → List ℕ
three_text verb result left right = verb ++ result ++ codes " = " ++ left ++ codes " " ++ right

abbrev pub refine_text : Name → Name → List ℕ
refine_text left right = codes "refine " ++ left ++ codes " " ++ right

abbrev pub test_text : Name → List Name → Point → List ℕ
test_text of names at = codes "test " ++ of ++ codes " at" ++ values_text 0 names at

abbrev pub bound_text : Name → Bool → Linear → List ℕ
bound_text of least goal = codes "bound " ++ of ++ (if least then codes " min " else codes " max ") ++ goal_text goal

abbrev pub hide_text : Name → Name → List Name → List ℕ
hide_text result of names = codes "hide " ++ result ++ codes " = " ++ of ++ words_text names

-- the kept names, where there are any
abbrev pub keep_text : List Name → List ℕ
keep_text keep = if length keep == 0 then [] else codes " keep" ++ words_text keep

abbrev pub compose_text : Name → List Name → List Name → List ℕ
compose_text result parts keep = codes "compose " ++ result ++ codes " =" ++ words_text parts ++ keep_text keep

abbrev pub op_text : Op → List ℕ
op_text (LimitRows most) = codes "limit rows " ++ decimal most
op_text (LimitPivots most) = codes "limit pivots " ++ decimal most
op_text (Merge result left right) = three_text (codes "merge ") result left right
op_text (Test of names at) = test_text of names at
op_text (Refine left right) = refine_text left right
op_text (Bound of least goal) = bound_text of least goal
op_text (Hide result of names) = hide_text result of names
op_text (Compose result parts keep) = compose_text result parts keep
op_text (Quotient result whole part) = three_text (codes "quotient ") result whole part

abbrev pub line_text : ScriptLine → List ℕ
line_text line = op_text line.op
