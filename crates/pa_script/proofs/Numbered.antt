-- The lines of the pieces between line feeds, one by one.
use Rattle.std.proofs.Common.{◌≡◌, ℕ, ◌+◌, ◌<◌, List, ◌∷◌, map, drop, length, get_or, ap, sym, ◌∙◌, Bool, true, false, refl, arith}
use Rattle.std.specs.Prelude.{◌==◌}
use Rattle.std.proofs.lemmas.Bool.{eq-eqb, ne_eqb, eqb-true, eqb-false}
use Rattle.std.proofs.lemmas.List.{drop_more, length-map, length-drop}
use Rattle.pa_script.specs.Script.{numbered, line_of}

same_case : (a b n : ℕ) (is_zero : Bool) → a + b ≡ n → (a == 0) ≡ is_zero → is_zero ≡ (b == n)
same_case a b n true sum is = let none : a ≡ 0 = eqb-true a 0 is in sym (eq-eqb b n (omega (arith, sum, none)))
same_case a b n false sum is = sym (ne_eqb b n (λ same. eqb-false a 0 is (omega (arith, sum, same))))

same_tests : (a b n : ℕ) → a + b ≡ n → (a == 0) ≡ (b == n)
same_tests a b n sum = same_case a b n (a == 0) sum refl

-- whether it is the last one
last_is : {A : Type 0} (f : A → List ℕ) (xs : List A) (i : ℕ) → i < length xs → (length (map f (drop (i + 1) xs)) == 0) ≡ (i + 1 == length xs)
last_is f xs i within =
    same_tests (length (map f (drop (i + 1) xs))) (i + 1) (length xs) (omega (arith, within, length-map (drop (i + 1) xs) f, length-drop (i + 1) xs))

pub numbered_at : {A : Type 0} (f : A → List ℕ) (xs : List A) (i n : ℕ) (d : A) → i < length xs
    → numbered n (map f (drop i xs)) ≡ (n, line_of (i + 1 == length xs) (f (get_or xs i d))) ∷ numbered (n + 1) (map f (drop (i + 1) xs))
numbered_at f xs i n d within =
    ap (λ ys. numbered n (map f ys)) (drop_more xs i d within)
    ∙ ap (λ last. (n, line_of last (f (get_or xs i d))) ∷ numbered (n + 1) (map f (drop (i + 1) xs))) (last_is f xs i within)
