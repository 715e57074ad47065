-- What several puts in a row take.
use Rattle.std.proofs.Common.{length-drop, ◌≡◌, ℕ, ◌+◌, ◌-◌, ◌≤◌, List, [], ◌++◌, take, drop, length}
use Rattle.std.proofs.Common.{refl, ap, sym, ◌∙◌, append_assoc, arith, Some, None, Option}
use Rattle.std.proofs.Math.Seq.{take-add}
use Rattle.std.proofs.lemmas.List.{take_rest, append-nil}
use Rattle.pa_desk.specs.Causes.{Rose}
use Rattle.pa_desk.specs.Taken.{with_bytes}

-- no bytes change nothing
pub with_bytes-nothing : (told : Option (List ℕ)) → with_bytes told [] ≡ told
with_bytes-nothing None = refl
with_bytes-nothing (Some xs) = ap Some (append-nil xs)

-- some bytes and then others are both in order
pub with_bytes-append : (told : Option (List ℕ)) (xs ys : List ℕ) → with_bytes (with_bytes told xs) ys ≡ with_bytes told (xs ++ ys)
with_bytes-append None xs ys = refl
with_bytes-append (Some zs) xs ys = ap Some (append_assoc zs xs ys)

-- after the first i bytes, n more
pub with_bytes-take : (before mid after : Option (List ℕ)) (bytes : List ℕ) (i n : ℕ)
    → mid ≡ with_bytes before (take i bytes)
    → after ≡ with_bytes mid (take n (take (length bytes - i) (drop i bytes)))
    → after ≡ with_bytes before (take (i + n) bytes)
with_bytes-take before mid after bytes i n first second =
    second ∙ ap (λ xs. with_bytes mid (take n xs)) (take_rest bytes i)
    ∙ ap (λ told. with_bytes told (take n (drop i bytes))) first
    ∙ with_bytes-append before (take i bytes) (take n (drop i bytes))
    ∙ ap (with_bytes before) (sym (take-add i n bytes))

-- a count that rose in the last part of a run rose in the run
pub Rose-earlier : (first before now : ℕ) → first ≤ before → Rose before now → Rose first now
Rose-earlier first before now le rose = omega arith

-- the part of a front that is taken of the rest stays within the bytes
pub front-within : (bytes : List ℕ) (i n : ℕ) → i ≤ length bytes → n ≤ length (take (length bytes - i) (drop i bytes)) → i + n ≤ length bytes
front-within bytes i n le within =
    let rest : length (take (length bytes - i) (drop i bytes)) ≡ length bytes - i = ap (λ xs. length xs) (take_rest bytes i) ∙ length-drop i bytes in
    omega arith
