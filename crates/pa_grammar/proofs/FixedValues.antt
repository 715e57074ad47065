-- The values of constants are fractions that a token may hold.
use Rattle.std.proofs.Common.{List, [], ◌∷◌}
use Rattle.std.specs.Prelude.{ℤ, All}
use Rattle.std.proofs.lemmas.List.Elements.{All-head, All-tail}
use Rattle.pa_row.specs.Fractions.{IsFraction}
use Rattle.pa_grammar.specs.Sized.{AreFixed}

pub fractions_fixed : (values : List (ℤ × ℤ)) → All IsFraction values → AreFixed values
fractions_fixed [] all = tt
fractions_fixed (v ∷ vs) all =
    let own = All-head IsFraction v vs all in
    ((own.reduced, own.numerator, own.denominator), fractions_fixed vs (All-tail IsFraction v vs all))
