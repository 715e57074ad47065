-- What the test of a printed point's names tells.
use Rattle.std.proofs.Common.{◌≡◌, refl, sym, ap, ap₂, ◌∙◌, ℕ, ◌+◌, ◌<◌, zero, suc, add-one, List, [], ◌∷◌, ◌++◌, length, take, drop, get_or}
use Rattle.std.proofs.Common.{slice_get, Some, Bool, true, false, ◌&&◌, nat_eq, Decides, arith, true≢false, pos, ℤ}
use Rattle.std.proofs.Math.Seq.{drop-cons}
use Rattle.std.proofs.lemmas.Bool.Decides.{Decides-like, Decides-and, Decides-eqb, Decides-at}
use Rattle.std.proofs.lemmas.List.{length-append}
use Rattle.std.specs.Cmp.Lexicographic.{pointwise, pointwise_decides, bytes_decides}
use Rattle.std.specs.Str.{bytes_eq}
use lib.Signed.{◌<ℤ◌}
use Rattle.pa_meaning.specs.Rows.{Point}
use Rattle.pa_meaning.specs.Contracts.{Name}
use Rattle.pa_cert.specs.Lists.{Located}
use Rattle.pa_holds.specs.Refined.{IsAt}
use Rattle.pa_check.specs.Ports.{are_ports_in}

read : (ys : List Name) (i : ℕ) (y : Name) → slice_get ys i ≡ Some y → drop i ys ≡ y ∷ drop (suc i) ys
read [] i y e = absurd (cc)
read (x ∷ ys) zero y e = ap (λ t. t ∷ ys) (some_same x y e)
  where
    some_same : (x y : Name) → Some x ≡ Some y → x ≡ y
    some_same x y e = cc
read (x ∷ ys) (suc i) y e = read ys i y e

pub name_turn : (xs ys : List Name) (i : ℕ) (x y : Name) → i < length xs → x ≡ get_or xs i x → slice_get ys i ≡ Some y →
    pointwise bytes_eq (drop i xs) (drop i ys) ≡ (bytes_eq x y && pointwise bytes_eq (drop (i + 1) xs) (drop (i + 1) ys))
name_turn xs ys i x y h is e = rw (add-one, drop-cons xs i x h, read ys i y e, ← is) refl

same_names : (xs ys : List Name) → Decides (pointwise bytes_eq xs ys) (xs ≡ ys)
same_names xs ys = pointwise_decides bytes_decides xs ys

take_append : (xs ys : List Name) → take (length xs) (xs ++ ys) ≡ xs
take_append [] ys = refl
take_append (x ∷ xs) ys = ap (λ t. x ∷ t) (take_append xs ys)

drop_append : (xs ys : List Name) → drop (length xs) (xs ++ ys) ≡ ys
drop_append [] ys = refl
drop_append (x ∷ xs) ys = drop_append xs ys

take_drop : (n : ℕ) (xs : List Name) → take n xs ++ drop n xs ≡ xs
take_drop zero xs = refl
take_drop (suc n) [] = refl
take_drop (suc n) (x ∷ xs) = ap (λ t. x ∷ t) (take_drop n xs)

pub ports_decide : (names inputs outputs : List Name) → Decides (are_ports_in names inputs outputs) (names ≡ inputs ++ outputs)
ports_decide names inputs outputs =
    Decides-like (are_ports_in names inputs outputs)
    (λ h. sym (take_drop (length inputs) names) ∙ ap₂ (λ xs ys. xs ++ ys) h.0.1 h.1)
    (λ e. (
      (ap length e ∙ length-append inputs outputs, ap (take (length inputs)) e ∙ take_append inputs outputs),
      ap (drop (length inputs)) e ∙ drop_append inputs outputs,
    ))
    (Decides-and (nat_eq (length names) (length inputs + length outputs) && pointwise bytes_eq (take (length inputs) names) inputs)
    (pointwise bytes_eq (drop (length inputs) names) outputs)
    (Decides-and (nat_eq (length names) (length inputs + length outputs)) (pointwise bytes_eq (take (length inputs) names) inputs)
    (Decides-eqb (length names) (length inputs + length outputs)) (same_names (take (length inputs) names) inputs))
    (same_names (drop (length inputs) names) outputs))

pub at_told : (result : Bool) (names : List Name) (x : Point) (inputs outputs : List Name) → pos 0 <ℤ x.q
    → result ≡ (are_ports_in names inputs outputs && nat_eq (length x.p) (length names))
    → Decides result (IsAt (inputs ++ outputs) (record { names = names; at = x }))
at_told result names x inputs outputs up e =
    Decides-like result (λ h. record { names = h.0; numbers = h.1; positive = up }) (λ h. (h.names, h.numbers))
    (Decides-at result (are_ports_in names inputs outputs && nat_eq (length x.p) (length names)) e
    (Decides-and (are_ports_in names inputs outputs) (nat_eq (length x.p) (length names)) (ports_decide names inputs outputs)
    (Decides-eqb (length x.p) (length names))))
