-- How many choices there are, counted one chosen thing after another.
use Rattle.std.proofs.Common.{◌≡◌, ℕ, zero, suc, ◌<◌, ◌≤◌, ◌+◌, ◌*◌, ◌/◌, ◌-◌, Bool, true, false, if◌then◌else◌, nat_le, refl, ap, subst, ◌∙◌, arith}
use Rattle.std.proofs.Math.Nat.{mul-div_cancel}
use Rattle.pa_ring.specs.Choices.{choices}
use Rattle.pa_replay.specs.Limits.{most_bases}

-- a choice of one thing more, with one of its things marked, is a thing and a choice of the other ones
pub absorbs : (n k : ℕ) → suc k * choices (suc n) (suc k) ≡ suc n * choices n k
absorbs zero zero = refl
absorbs zero (suc k) = omega arith
absorbs (suc n) zero = (let e = absorbs n zero in omega (arith, e))
absorbs (suc n) (suc k) = (let e = absorbs n k in let f = absorbs n (suc k) in omega (arith, e, f))

pub one_more_chosen : (r k b : ℕ) → b ≡ choices (r + k) k → b * (r + k + 1) / (k + 1) ≡ choices (r + (k + 1)) (k + 1)
one_more_chosen r k b h =
    let product : b * (r + k + 1) ≡ choices (suc (r + k)) (suc k) * (k + 1) = (let e = absorbs (r + k) k in rw h (omega (arith, e))) in
    let place : suc (r + k) ≡ r + (k + 1) = omega arith in
    let next : suc k ≡ k + 1 = omega arith in
    ap (λ x. x / (k + 1)) product ∙ mul-div_cancel (choices (suc (r + k)) (suc k)) (omega arith) ∙ ap (λ x. choices x (suc k)) place
    ∙ ap (λ x. choices (r + (k + 1)) x) next

grows : (r k : ℕ) → choices (r + k) k ≤ choices (r + suc k) (suc k)
grows r k =
    let place : suc (r + k) ≡ r + suc k = omega arith in
    subst (λ x. choices (r + k) k ≤ choices x (suc k)) place (omega arith)

at_least : (r k d : ℕ) → choices (r + k) k ≤ choices (r + (d + k)) (d + k)
at_least r k zero = (let e : k ≡ 0 + k = omega arith in subst (λ x. choices (r + k) k ≤ choices (r + x) x) e (omega arith))
at_least r k (suc d) =
    (let up = at_least r k d in
    let more = grows r (d + k) in
    let e : suc (d + k) ≡ suc d + k = omega arith in
    subst (λ x. choices (r + k) k ≤ choices (r + x) x) e (omega (arith, up, more)))

-- where there are many with fewer things chosen, there are many
pub many_bases : (r c k : ℕ) → k ≤ c → 4096 < choices (r + k) k → 4097 ≡ most_bases r c
many_bases r c k le many = by_size (nat_le (choices (r + c) c) 4096) refl
  where
    up : choices (r + k) k ≤ choices (r + c) c
    up = let e : (c - k) + k ≡ c = omega (arith, le) in subst (λ x. choices (r + k) k ≤ choices (r + x) x) e (at_least r k (c - k))

    by_size : (t : Bool) → nat_le (choices (r + c) c) 4096 ≡ t → 4097 ≡ (if t then choices (r + c) c else 4097)
    by_size true e = (let more = up in absurd (grind (arith, e, more, many)))
    by_size false e = refl
