-- How many names a union has, counted name by name.
use Rattle.std.proofs.Common.{◌≡◌, ℕ, suc, ◌+◌, ◌≤◌, Bool, true, false, ◌||◌, cond, List, [], ◌∷◌, ◌++◌, length, take, drop, Some, refl, sym, ap, ap₂, ◌∙◌}
use Rattle.std.proofs.Common.{subst, arith, take-append-drop}
use Rattle.std.specs.Prelude.{slice_get}
use Rattle.std.specs.List.{list_any, IsDistinct, AllByRecursion}
use Rattle.std.specs.Str.{bytes_eq}
use Rattle.std.proofs.lemmas.Cmp.{nat_list_eq_equiv}
use Rattle.std.proofs.lemmas.List.{length_push}
use Rattle.std.proofs.lemmas.Map.Keys.{IsDistinct-head, IsDistinct-tail}
use Rattle.pa_math.specs.Lists.{with_new, union}
use Rattle.pa_math.proofs.Unions.{All-implied, IsDistinct-right}
use Rattle.pa_meaning.specs.Contracts.{Name}
use Rattle.pa_contract.proofs.Steps.{drop-slice_get}

or_assoc : (a b c : Bool) → (a || (b || c)) ≡ ((a || b) || c)
or_assoc true b c = refl
or_assoc false b c = refl

or_neither : (a b : Bool) → b ≡ false → (a || (b || false)) ≡ a
or_neither true b h = refl
or_neither false b h = ap (λ t. t || false) h

list_any-append : (p : Name → Bool) (xs ys : List Name) → list_any p (xs ++ ys) ≡ (list_any p xs || list_any p ys)
list_any-append p [] ys = refl
list_any-append p (x ∷ xs) ys = ap (λ t. p x || t) (list_any-append p xs ys) ∙ or_assoc (p x) (list_any p xs) (list_any p ys)

-- both lists have the same of these names
abbrev Agree : List Name → List Name → List Name → Type 0
Agree us vs ys = AllByRecursion (λ w. list_any (bytes_eq w) us ≡ list_any (bytes_eq w) vs) ys

agree_more : (us vs ys : List Name) (z : Name) → Agree us vs ys → Agree (us ++ z ∷ []) (vs ++ z ∷ []) ys
agree_more us vs ys z h =
    All-implied (λ w. list_any (bytes_eq w) us ≡ list_any (bytes_eq w) vs) (λ w. list_any (bytes_eq w) (us ++ z ∷ []) ≡ list_any (bytes_eq w) (vs ++ z ∷ []))
    (λ w e. list_any-append (bytes_eq w) us (z ∷ []) ∙ ap (λ t. t || list_any (bytes_eq w) (z ∷ [])) e ∙ sym (list_any-append (bytes_eq w) vs (z ∷ []))) ys h

-- a list that is one longer has a union that is one longer, where both have the same of the other names
one_longer : (us vs ys : List Name) → Agree us vs ys → length us ≡ suc (length vs) → length (union bytes_eq us ys) ≡ suc (length (union bytes_eq vs ys))
one_longer us vs [] h e = e
one_longer us vs (z ∷ zs) h e = by (list_any (bytes_eq z) us) refl (sym h.0) (λ xs ys. one_longer xs ys zs)
  where
    by : (b : Bool) → list_any (bytes_eq z) us ≡ b → list_any (bytes_eq z) vs ≡ list_any (bytes_eq z) us
        → ((xs ys : List Name) → Agree xs ys zs → length xs ≡ suc (length ys) → length (union bytes_eq xs zs) ≡ suc (length (union bytes_eq ys zs)))
        → length (union bytes_eq (with_new bytes_eq us z) zs) ≡ suc (length (union bytes_eq (with_new bytes_eq vs z) zs))
    by true i j rest =
        ap (λ t. length (union bytes_eq (cond t us (us ++ z ∷ [])) zs)) i ∙ rest us vs h.1 e
        ∙ sym (ap (λ t. suc (length (union bytes_eq (cond t vs (vs ++ z ∷ [])) zs))) (j ∙ i))
    by false i j rest =
        ap (λ t. length (union bytes_eq (cond t us (us ++ z ∷ [])) zs)) i
        ∙ rest (us ++ z ∷ []) (vs ++ z ∷ []) (agree_more us vs zs z h.1) (let a = length_push us z in let b = length_push vs z in omega arith)
        ∙ sym (ap (λ t. suc (length (union bytes_eq (cond t vs (vs ++ z ∷ [])) zs))) (j ∙ i))

-- how many names one name adds
abbrev pub added : List Name → Name → ℕ
added xs y = cond (list_any (bytes_eq y) xs) 0 1

pub added_few : (xs : List Name) (y : Name) → added xs y ≤ 1
added_few xs y = by (list_any (bytes_eq y) xs)
  where
    by : (b : Bool) → cond b 0 1 ≤ 1
    by true = omega arith
    by false = omega arith

-- the first name of a list without repeats adds itself, and then the others add theirs
union_first : (xs ys : List Name) (y : Name) → IsDistinct bytes_eq (y ∷ ys) → length (union bytes_eq xs (y ∷ ys)) ≡ added xs y + length (union bytes_eq xs ys)
union_first xs ys y d = by (list_any (bytes_eq y) xs) refl
  where
    others : AllByRecursion (λ w. bytes_eq y w ≡ false) ys
    others = IsDistinct-head bytes_eq y ys d

    agree : Agree (xs ++ y ∷ []) xs ys
    agree = All-implied (λ w. bytes_eq y w ≡ false) (λ w. list_any (bytes_eq w) (xs ++ y ∷ []) ≡ list_any (bytes_eq w) xs)
        (λ w h. list_any-append (bytes_eq w) xs (y ∷ []) ∙ or_neither (list_any (bytes_eq w) xs) (bytes_eq w y) (nat_list_eq_equiv.symm w y ∙ h)) ys others

    by : (b : Bool) → list_any (bytes_eq y) xs ≡ b → length (union bytes_eq (with_new bytes_eq xs y) ys) ≡ added xs y + length (union bytes_eq xs ys)
    by true i =
        let left = ap (λ t. length (union bytes_eq (cond t xs (xs ++ y ∷ [])) ys)) i in
        let right : added xs y ≡ 0 = ap (λ t. cond t 0 1) i in omega (arith, left, right)
    by false i =
        let left = ap (λ t. length (union bytes_eq (cond t xs (xs ++ y ∷ [])) ys)) i in
        let right : added xs y ≡ 1 = ap (λ t. cond t 0 1) i in
        let longer = one_longer (xs ++ y ∷ []) xs ys agree (let a = length_push xs y in omega arith) in omega (arith, left, right, longer)

rest_distinct : (ys : List Name) (i : ℕ) → IsDistinct bytes_eq ys → IsDistinct bytes_eq (drop i ys)
rest_distinct ys i d = IsDistinct-right bytes_eq (take i ys) (drop i ys) (subst (IsDistinct bytes_eq) (sym (take-append-drop i ys)) d)

-- one name after another
pub union_counts : (xs ys : List Name) (i : ℕ) (y : Name) → IsDistinct bytes_eq ys → slice_get ys i ≡ Some y
    → length (union bytes_eq xs (drop i ys)) ≡ added xs y + length (union bytes_eq xs (drop (i + 1) ys))
union_counts xs ys i y d found =
    let rest = drop-slice_get ys i y found in
    ap (λ t. length (union bytes_eq xs t)) rest ∙ union_first xs (drop (i + 1) ys) y (subst (IsDistinct bytes_eq) rest (rest_distinct ys i d))
