-- What the sums of a direction tell.
use Rattle.std.proofs.Common.{◌≡◌, refl, sym, ap, ◌∙◌, List, ℤ, pos, Bool, true, false, Result, Ok, Err, All, Decides, IfOk, int_le, int_lt, arith}
use Rattle.std.proofs.lemmas.Int.{ints}
use lib.Signed.{◌≤ℤ◌, ◌<ℤ◌}
use Rattle.pa_ring.specs.Sums.{dot}
use Rattle.pa_frac.specs.declared.wide.Wide.{Wide}
use Rattle.pa_math.specs.Answers.{and_then}
use Rattle.pa_meaning.specs.Rows.{Row}
use Rattle.pa_meaning.specs.Directions.{Sticks}
use Rattle.pa_row.specs.Sums.{dot_in}
use Rattle.pa_row.proofs.Dots.{and_then_ok, ok_same, dot_in_exact, is_at_most, test_at_most}
use Rattle.pa_check.specs.Tests.{both, each, Tells}
use Rattle.pa_check.specs.Directions.{level_in, Improves, rises_in, all_level_in, sticks_in, better_in, improves_in}
use Rattle.pa_holds.specs.Bounded.{GetsBetter}
use Rattle.pa_check.proofs.Tests.{tells_like, tells_both, tells_each, told}

-- a test of a sum tells the same of the sum of the products
pub tells_sum : (cs d : List ℤ) (test : ℤ → Bool) (P : ℤ → Type 0) → ((z : ℤ) → Decides (test z) (P z))
    → Tells (and_then (dot_in cs d) (λ sum. Ok (test sum))) (P (dot cs d))
tells_sum cs d test P each passed e =
    let (sum, is, last) = and_then_ok (dot_in cs d) (λ sum. Ok (test sum)) passed (sym e) in
    rw (ok_same passed (test sum) last, ← dot_in_exact cs d sum is) (each sum)

is_less : (a b : ℤ) → int_lt a b ≡ true → a <ℤ b
is_less a b h = omega (arith, ints)

test_less : (a b : ℤ) → a <ℤ b → int_lt a b ≡ true
test_less a b h = grind (arith, ints)

pub level_tells : (d : List ℤ) (row : Row) → Tells (level_in d row) (dot row.c d ≤ℤ pos 0)
level_tells d row = tells_sum row.c d (λ z. int_le z (pos 0)) (λ z. z ≤ℤ pos 0) (λ z. (is_at_most z (pos 0), test_at_most z (pos 0)))

pub rises_tells : (d cs : List ℤ) → Tells (rises_in d cs) (pos 0 <ℤ dot cs d)
rises_tells d cs = tells_sum cs d (λ z. int_lt (pos 0) z) (λ z. pos 0 <ℤ z) (λ z. (is_less (pos 0) z, test_less (pos 0) z))

pub all_level_tells : (d : List ℤ) (rows : List Row) → Tells (all_level_in d rows) (All (λ r. dot r.c d ≤ℤ pos 0) rows)
all_level_tells d rows = tells_each (level_in d) (λ r. Unit {0}) (λ r. dot r.c d ≤ℤ pos 0) (λ r u. level_tells d r) rows (λ k e h. tt)

pub sticks_tells : (d : List ℤ) (rows : List Row) (t : Row) → Tells (sticks_in d rows t) (Sticks d rows t)
sticks_tells d rows t = tells_like (sticks_in d rows t) (λ h. record { level = h.0; rises = h.1 }) (λ s. (s.level, s.rises))
    (tells_both (all_level_in d rows) (rises_in d t.c) (all_level_tells d rows) (λ l. rises_tells d t.c))

pub sticks_told : (answer : Result Bool Wide) (d : List ℤ) (rows : List Row) (t : Row) → answer ≡ sticks_in d rows t
    → IfOk answer (λ passed. Decides passed (Sticks d rows t))
sticks_told answer d rows t e = told answer (sticks_in d rows t) e (sticks_tells d rows t)

pub better_tells : (least : Bool) (d goal : List ℤ) → Tells (better_in least d goal) (GetsBetter least goal d)
better_tells true d goal = tells_sum goal d (λ z. int_lt z (pos 0)) (λ z. z <ℤ pos 0) (λ z. (is_less z (pos 0), test_less z (pos 0)))
better_tells false d goal = rises_tells d goal

pub improves_tells : (least : Bool) (d : List ℤ) (rows : List Row) (goal : List ℤ) → Tells (improves_in least d rows goal) (Improves least d rows goal)
improves_tells least d rows goal = tells_like (improves_in least d rows goal) (λ h. record { level = h.0; better = h.1 }) (λ s. (s.level, s.better))
    (tells_both (all_level_in d rows) (better_in least d goal) (all_level_tells d rows) (λ l. better_tells least d goal))

pub improves_told : (answer : Result Bool Wide) (least : Bool) (d : List ℤ) (rows : List Row) (goal : List ℤ) → answer ≡ improves_in least d rows goal
    → IfOk answer (λ passed. Decides passed (Improves least d rows goal))
improves_told answer least d rows goal e = told answer (improves_in least d rows goal) e (improves_tells least d rows goal)
