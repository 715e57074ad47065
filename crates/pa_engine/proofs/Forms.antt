-- No words are two paths and also a path and the word that asks for an upgrade.
use Rattle.std.proofs.Common.{◌≡◌, ◌∙◌, ap, sym, refl, ℕ, List, [], ◌∷◌, codes, Some, None, Bool, true, false, ◌&&◌, cond}
use Rattle.std.proofs.lemmas.Slice.Eq.{bytes_eq-Decides}
use Rattle.pa_engine.specs.Words.{Paths, paths_of, upgrade_path_of, is_path, is_upgrade}

second_is_path : (a b : Bool) (given : Paths) (paths : Paths) → cond (a && b) (Some given) None ≡ Some paths → b ≡ true
second_is_path true true given paths h = refl
second_is_path true false given paths h = absurd (cc)
second_is_path false b given paths h = absurd (cc)

second_is_upgrade : (a b : Bool) (given : List ℕ) (path : List ℕ) → cond (a && b) (Some given) None ≡ Some path → b ≡ true
second_is_upgrade true true given path h = refl
second_is_upgrade true false given path h = absurd (cc)
second_is_upgrade false b given path h = absurd (cc)

no_word : (word : List ℕ) → is_path word ≡ true → is_upgrade word ≡ true → ⊥
no_word word h k =
    let same : word ≡ codes "--upgrade" = (bytes_eq-Decides word (codes "--upgrade")).0 k in
    let none : is_path (codes "--upgrade") ≡ true = ap is_path (sym same) ∙ h in
    absurd (cc)

pub one_form : (words : List (List ℕ)) (paths : Paths) (path : List ℕ) → paths_of words ≡ Some paths → upgrade_path_of words ≡ Some path → ⊥
one_form [] paths path h k = absurd (cc)
one_form (a ∷ []) paths path h k = absurd (cc)
one_form (a ∷ b ∷ []) paths path h k =
    no_word b (second_is_path (is_path a) (is_path b) (record { diagram = a; script = b }) paths h) (second_is_upgrade (is_path a) (is_upgrade b) a path k)
one_form (a ∷ b ∷ c ∷ words) paths path h k = absurd (cc)
