-- A piece taken in.
use Rattle.std.proofs.Common.{◌≡◌, ◌⊎◌, inr, ℕ, ◌+◌, List, [], ◌∷◌, arith, ap₂, Result, Ok, Err, Option, Some, map, sym, subst, ap, ◌∙◌, refl}
use Rattle.std.specs.Prelude.{replicate, zero, suc, pos}
use Rattle.pa_math.specs.Answers.{IsAnswer, and_then, told_as}
use Rattle.pa_math.specs.Rational.{ℚ, whole}
use Rattle.pa_frac.specs.declared.wide.Wide.{Wide}
use Rattle.pa_frac.specs.declared.wide126.Wide126.{Wide126}
use Rattle.pa_grammar.specs.declared.sums.Pair.{Pair}
use Rattle.pa_grammar.specs.Seen.{fraction, seen_pair}
use Rattle.pa_row.specs.declared.fault.RowFault.{RowFault}
use Rattle.pa_row.specs.declared.fault.RowFault.TheVariants as fault
use Rattle.pa_row.specs.Answers.{as_fault}
use Rattle.pa_grammar.specs.declared.token.Sign.{Sign}
use Rattle.pa_grammar.specs.declared.machine.Factor.{Factor}
use Rattle.pa_grammar.specs.declared.machine.Piece.{Piece}
use Rattle.pa_grammar.specs.declared.machine.Piece.TheVariants as P
use Rattle.pa_grammar.specs.Meaning.{factor_value, scale_value}
use Rattle.pa_grammar.specs.Values.{Side, changed_at, combined, with_vector}
use Rattle.pa_grammar.specs.Pieces.{Frame, Sum, sum_with, piece_in, empty_side}

-- what passes the width before a further step is told so behind it
pub wide_before : {A B : Type 0} (due : Result A Wide) (next : A → Result B Wide) (e : Wide) → Err e ≡ due
    → (fault.Wide ≡ fault.Memory) ⊎ (told_as as_fault (and_then due next) ≡ Err fault.Wide)
wide_before (Ok value) next e is = absurd (cc)
wide_before (Err wide) next e is = inr refl

-- the answer that is due to a sum with a column changed
abbrev IsChanged : (place : ℕ) (s : Sign) (side : Side) (frames : List Frame) (sides : List Side) (amount : ℚ) → Result Sum RowFault → Type 0
IsChanged place s side frames sides amount r = IsAnswer fault.Memory
    (told_as as_fault (and_then (changed_at place (λ q. combined s q amount) side.vector) (λ v. Ok (sum_with (with_vector side v) frames sides)))) r

abbrev IsTaken : (names : ℕ) (piece : Piece) (side : Side) (frames : List Frame) (sides : List Side) → Result Sum RowFault → Type 0
IsTaken names piece side frames sides r = IsAnswer fault.Memory (told_as as_fault (piece_in names piece side frames sides)) r

pub constant_in : (names : ℕ) (piece : Piece) (s : Sign) (f : Factor) (side : Side) (frames : List Frame) (sides : List Side) (amount : ℚ)
    (r : Result Sum RowFault)
    → piece ≡ P.Constant s f → amount ≡ factor_value f → IsChanged names s side frames sides amount r → IsTaken names piece side frames sides r
constant_in names piece s f side frames sides amount r is value given =
    subst (λ p. IsTaken names p side frames sides r) (sym is) (subst (λ t. IsChanged names s side frames sides t r) value given)

pub variable_in : (names : ℕ) (piece : Piece) (s : Sign) (f : Option Factor) (j : ℕ) (side : Side) (frames : List Frame) (sides : List Side) (amount : ℚ)
    (r : Result Sum RowFault)
    → piece ≡ P.Variable s f (Some j) → amount ≡ scale_value f → IsChanged j s side frames sides amount r → IsTaken names piece side frames sides r
variable_in names piece s f j side frames sides amount r is value given =
    subst (λ p. IsTaken names p side frames sides r) (sym is) (subst (λ t. IsChanged j s side frames sides t r) value given)

-- the same element, seen in another way
pub map-replicate : {A B : Type 0} (f : A → B) (n : ℕ) (x : A) → map f (replicate n x) ≡ replicate n (f x)
map-replicate f zero x = refl
map-replicate f (suc n) x = ap (λ xs. f x ∷ xs) (map-replicate f n x)

pub empty_is : (names : ℕ) (z : Wide126) (vector : List Wide126) (pairs : List Pair) → vector ≡ replicate (names + 1) z
    → fraction z ≡ whole (pos 0) → pairs ≡ []
    → empty_side names ≡ record { vector = map fraction vector; pairs = map seen_pair pairs }
empty_is names z vector pairs all nothing none =
    let zeros : map fraction vector ≡ replicate (suc names) (whole (pos 0)) =
    ap (map fraction) all ∙ map-replicate fraction (names + 1) z ∙ ap₂ (λ n q. replicate n q) (let e : names + 1 ≡ suc names = omega arith in e) nothing in
    λ i. record { vector = sym zeros i; pairs = ap (map seen_pair) (sym none) i }
