-- What the theorem on rows and texts speaks of.
use Rattle.std.specs.Prelude.{◌≡◌, ℕ, ◌<◌, pos, ◌<ℤ◌, List, [], ◌∷◌, Bool, false, Some, None, Ok}
use Rattle.pa_meaning.specs.Rows.{Row, Point, Meets}
use Rattle.pa_grammar.specs.Grammar.{Items, End, Constant, Variable, Bracket, BarPair, Term, IsTerm}
use Rattle.pa_grammar.specs.Meaning.{TextHolds}
use Rattle.pa_grammar.specs.Values.{pair_faults, term_rows}

-- each name is known
abbrev pub AreKnown : ℕ → Items → Type 0
AreKnown names End = Unit {0}
AreKnown names (Constant s f rest) = AreKnown names rest
AreKnown names (Variable s f star None rest) = ⊥
AreKnown names (Variable s f star (Some j) rest) = (j < names) × AreKnown names rest
AreKnown names (Bracket s f star inner rest) = AreKnown names inner × AreKnown names rest
AreKnown names (BarPair s f star inner rest) = AreKnown names inner × AreKnown names rest

abbrev pub AllKnown : ℕ → List Items → Type 0
AllKnown names [] = Unit {0}
AllKnown names (i ∷ is) = AreKnown names i × AllKnown names is

abbrev pub AreMet : List Row → Point → Type 0
AreMet [] x = Unit {0}
AreMet (row ∷ rows) x = Meets row x × AreMet rows x

-- each test fails
abbrev pub AllFalse : List Bool → Type 0
AllFalse [] = Unit {0}
AllFalse (b ∷ bs) = (b ≡ false) × AllFalse bs

-- at each point the rows of an accepted term are met exactly where the text is
abbrev pub RowsSayTheText : Type 0
RowsSayTheText = (t : Term) (rows : List Row) (names : ℕ) (x : Point) → pos 0 <ℤ x.q → IsTerm t → AreKnown names t.side → AllKnown names t.others
    → AllFalse (pair_faults t)
    → term_rows names t ≡ Ok rows → (AreMet rows x → TextHolds x t) × (TextHolds x t → AreMet rows x)
