-- Unions, and lists in which nothing is repeated.
use Rattle.std.proofs.Common.{◌≡◌, ◌+◌, ◌≤◌, Bool, true, false, ◌||◌, cond, List, [], ◌∷◌, ◌++◌, length, map, Some, None, refl, sym, ap, ◌∙◌, subst, arith}
use Rattle.std.proofs.lemmas.List.{length_push}
use Rattle.std.proofs.lemmas.List.Folds.{list_any-append}
use Rattle.std.proofs.lemmas.Map.Keys.{IsDistinct-head, IsDistinct-tail, IsDistinct-cons, IsDistinct-push}
use Rattle.std.specs.Cmp.{IsEquivalence}
use Rattle.std.specs.List.{list_any, find, IsDistinct, AllByRecursion}
use Rattle.pa_math.specs.Lists.{with_new, union, AreApart, AreAmong}

module _ {A : Type 0} where
  -- no element passes a test that each fails
  pub list_any-none : (p : A → Bool) (xs : List A) → AllByRecursion (λ x. p x ≡ false) xs → list_any p xs ≡ false
  list_any-none p [] h = refl
  list_any-none p (x ∷ xs) h = ap (λ b. b || list_any p xs) h.0 ∙ list_any-none p xs h.1

  -- each element fails a test that none passes
  pub none-list_any : (p : A → Bool) (xs : List A) → list_any p xs ≡ false → AllByRecursion (λ x. p x ≡ false) xs
  none-list_any p [] h = tt
  none-list_any p (x ∷ xs) h = by (p x) refl h (none-list_any p xs)
    where
      by : (b : Bool) → p x ≡ b → (b || list_any p xs) ≡ false
          → (list_any p xs ≡ false → AllByRecursion (λ x. p x ≡ false) xs) → (p x ≡ false) × AllByRecursion (λ x. p x ≡ false) xs
      by true e h rest = absurd (cc)
      by false e h rest = (e, rest h)

  module _ (same : A → A → Bool) where
    -- one more, where it is new or where it is not
    pub All-with_new : (P : A → Type 0) (xs : List A) (x : A) → AllByRecursion P xs → P x → AllByRecursion P (with_new same xs x)
    All-with_new P xs x h k = by (list_any (same x) xs)
      where
        push : (xs : List A) → AllByRecursion P xs → AllByRecursion P (xs ++ x ∷ [])
        push [] h = (k, tt)
        push (y ∷ ys) h = (h.0, push ys h.1)

        by : (b : Bool) → AllByRecursion P (cond b xs (xs ++ x ∷ []))
        by true = h
        by false = push xs h

    -- what holds of each element of two lists holds of each in their union
    pub All-union : (P : A → Type 0) (xs ys : List A) → AllByRecursion P xs → AllByRecursion P ys → AllByRecursion P (union same xs ys)
    All-union P xs [] h k = h
    All-union P xs (y ∷ ys) h k = All-union P (with_new same xs y) ys (All-with_new P xs y h k.0) k.1

    -- a union is no longer than its lists together
    pub length-union : (xs ys : List A) → length (union same xs ys) ≤ length xs + length ys
    length-union xs [] = omega arith
    length-union xs (y ∷ ys) = let more = length-union (with_new same xs y) ys in let one = by (list_any (same y) xs) in omega arith
      where
        by : (b : Bool) → length (cond b xs (xs ++ y ∷ [])) ≤ length xs + 1
        by true = omega arith
        by false = let n = length_push xs y in omega arith

    -- a union of different elements
    pub IsDistinct-union : IsEquivalence same → (xs ys : List A) → IsDistinct same xs → IsDistinct same (union same xs ys)
    IsDistinct-union laws xs [] d = d
    IsDistinct-union laws xs (y ∷ ys) d = IsDistinct-union laws (with_new same xs y) ys (by (list_any (same y) xs) refl)
      where
        by : (b : Bool) → list_any (same y) xs ≡ b → IsDistinct same (cond b xs (xs ++ y ∷ []))
        by true e = d
        by false e = IsDistinct-push laws xs y d e

module _ {A : Type 0} where
  -- a fact that follows from another at each element
  pub All-implied : (P Q : A → Type 0) → ((x : A) → P x → Q x) → (xs : List A) → AllByRecursion P xs → AllByRecursion Q xs
  All-implied P Q f [] h = tt
  All-implied P Q f (x ∷ xs) h = (f x h.0, All-implied P Q f xs h.1)

  pub All-implied2 : (P Q R : A → Type 0) → ((x : A) → P x → Q x → R x) → (xs : List A) → AllByRecursion P xs → AllByRecursion Q xs → AllByRecursion R xs
  All-implied2 P Q R f [] h k = tt
  All-implied2 P Q R f (x ∷ xs) h k = (f x h.0 k.0, All-implied2 P Q R f xs h.1 k.1)

  -- two lists one after the other
  pub All-both : (P : A → Type 0) (xs ys : List A) → AllByRecursion P xs → AllByRecursion P ys → AllByRecursion P (xs ++ ys)
  All-both P [] ys h k = k
  All-both P (x ∷ xs) ys h k = (h.0, All-both P xs ys h.1 k)

  -- the first of two lists, and the second
  pub All-parts : (P : A → Type 0) (xs ys : List A) → AllByRecursion P (xs ++ ys) → AllByRecursion P xs × AllByRecursion P ys
  All-parts P [] ys h = (tt, h)
  All-parts P (x ∷ xs) ys h = let rest = All-parts P xs ys h.1 in ((h.0, rest.0), rest.1)

  -- a test that some element of a list passes, with a list before or behind it
  pub list_any-left : (p : A → Bool) (xs ys : List A) → list_any p xs ≡ true → list_any p (xs ++ ys) ≡ true
  list_any-left p xs ys h = list_any-append p xs ys ∙ ap (λ b. b || list_any p ys) h

  pub list_any-right : (p : A → Bool) (xs ys : List A) → list_any p ys ≡ true → list_any p (xs ++ ys) ≡ true
  list_any-right p xs ys h = list_any-append p xs ys ∙ by (list_any p xs)
    where
      by : (b : Bool) → (b || list_any p ys) ≡ true
      by true = refl
      by false = h

  -- a test that finds nothing in a list is failed by each element
  pub find-none : (p : A → Bool) (xs : List A) → find p xs ≡ None → AllByRecursion (λ x. p x ≡ false) xs
  find-none p [] h = tt
  find-none p (x ∷ xs) h = by (p x) refl h (find-none p xs)
    where
      by : (b : Bool) → p x ≡ b → cond b (Some x) (find p xs) ≡ None → (find p xs ≡ None → AllByRecursion (λ x. p x ≡ false) xs)
          → (p x ≡ false) × AllByRecursion (λ x. p x ≡ false) xs
      by true e h rest = absurd (cc)
      by false e h rest = (e, rest h)

  module _ (same : A → A → Bool) where
    pub AreApart-flip : IsEquivalence same → (xs ys : List A) → AreApart same xs ys → AreApart same ys xs
    AreApart-flip laws xs [] h = tt
    AreApart-flip laws xs (y ∷ ys) h = (
      list_any-none (same y) xs
          (All-implied (λ x. list_any (same x) (y ∷ ys) ≡ false) (λ x. same y x ≡ false) (λ x k. laws.symm y x ∙ (none-list_any (same x) (y ∷ ys) k).0) xs h),
      AreApart-flip laws xs ys (All-implied (λ x. list_any (same x) (y ∷ ys) ≡ false) (λ x. list_any (same x) ys ≡ false)
          (λ x k. list_any-none (same x) ys (none-list_any (same x) (y ∷ ys) k).1) xs h),
    )

    -- a list of different elements, from two, and back
    pub IsDistinct-both : (xs ys : List A) → IsDistinct same xs → IsDistinct same ys → AreApart same xs ys → IsDistinct same (xs ++ ys)
    IsDistinct-both [] ys d e h = e
    IsDistinct-both (x ∷ xs) ys d e h =
        IsDistinct-cons same x (xs ++ ys) (All-both _ xs ys (IsDistinct-head same x xs d) (none-list_any (same x) ys h.0))
        (IsDistinct-both xs ys (IsDistinct-tail same x xs d) e h.1)

    pub IsDistinct-left : (xs ys : List A) → IsDistinct same (xs ++ ys) → IsDistinct same xs
    unfolding IsDistinct
    IsDistinct-left [] ys d = tt
    IsDistinct-left (x ∷ xs) ys d = ((All-parts _ xs ys d.0).0, IsDistinct-left xs ys d.1)

    pub IsDistinct-right : (xs ys : List A) → IsDistinct same (xs ++ ys) → IsDistinct same ys
    IsDistinct-right [] ys d = d
    IsDistinct-right (x ∷ xs) ys d = IsDistinct-right xs ys (IsDistinct-tail same x (xs ++ ys) d)

    pub IsDistinct-apart : (xs ys : List A) → IsDistinct same (xs ++ ys) → AreApart same xs ys
    IsDistinct-apart [] ys d = tt
    IsDistinct-apart (x ∷ xs) ys d =
        (list_any-none (same x) ys (All-parts _ xs ys (IsDistinct-head same x (xs ++ ys) d)).1, IsDistinct-apart xs ys (IsDistinct-tail same x (xs ++ ys) d))

    -- what a list has stays in its union with another
    pub list_any-union : (p : A → Bool) (xs ys : List A) → list_any p xs ≡ true → list_any p (union same xs ys) ≡ true
    list_any-union p xs [] h = h
    list_any-union p xs (y ∷ ys) h = list_any-union p (with_new same xs y) ys (by (list_any (same y) xs))
      where
        by : (b : Bool) → list_any p (cond b xs (xs ++ y ∷ [])) ≡ true
        by true = h
        by false = list_any-left p xs (y ∷ []) h

    -- and what the other has is there
    pub AreAmong-union : ((x : A) → same x x ≡ true) → (xs ys : List A) → AreAmong same ys (union same xs ys)
    AreAmong-union itself xs [] = tt
    AreAmong-union itself xs (y ∷ ys) =
        (list_any-union (same y) (with_new same xs y) ys (by (list_any (same y) xs) refl), AreAmong-union itself (with_new same xs y) ys)
      where
        by : (b : Bool) → list_any (same y) xs ≡ b → list_any (same y) (cond b xs (xs ++ y ∷ [])) ≡ true
        by true e = e
        by false e = list_any-right (same y) xs (y ∷ []) (ap (λ b. b || false) (itself y))

    -- each element of a list is in it
    pub AreAmong-itself : ((x : A) → same x x ≡ true) → (xs : List A) → AreAmong same xs xs
    AreAmong-itself itself [] = tt
    AreAmong-itself itself (x ∷ xs) = (
      ap (λ b. b || list_any (same x) xs) (itself x),
      All-implied (λ y. list_any (same y) xs ≡ true) (λ y. list_any (same y) (x ∷ xs) ≡ true) (λ y h. list_any-right (same y) (x ∷ []) xs h) xs
          (AreAmong-itself itself xs),
    )

    -- what holds of each element of a union holds of each in its lists, where `same` is equality
    module _ (is : (x y : A) → same x y ≡ true → x ≡ y) where
      All-found : (P : A → Type 0) (x : A) (xs : List A) → list_any (same x) xs ≡ true → AllByRecursion P xs → P x
      All-found P x [] h k = absurd (cc)
      All-found P x (y ∷ ys) h k = by (same x y) refl h (λ more. All-found P x ys more k.1)
        where
          by : (b : Bool) → same x y ≡ b → (b || list_any (same x) ys) ≡ true → (list_any (same x) ys ≡ true → P x) → P x
          by true e h rest = subst P (sym (is x y e)) k.0
          by false e h rest = rest h

      All-from_with_new : (P : A → Type 0) (xs : List A) (x : A) → AllByRecursion P (with_new same xs x) → AllByRecursion P xs × P x
      All-from_with_new P xs x h = by (list_any (same x) xs) refl h
        where
          by : (b : Bool) → list_any (same x) xs ≡ b → AllByRecursion P (cond b xs (xs ++ x ∷ [])) → AllByRecursion P xs × P x
          by true e h = (h, All-found P x xs e h)
          by false e h = let parts = All-parts P xs (x ∷ []) h in (parts.0, parts.1.0)

      pub All-from_union : (P : A → Type 0) (xs ys : List A) → AllByRecursion P (union same xs ys) → AllByRecursion P xs × AllByRecursion P ys
      All-from_union P xs [] h = (h, tt)
      All-from_union P xs (y ∷ ys) h =
          let rest = All-from_union P (with_new same xs y) ys h in
          let first = All-from_with_new P xs y rest.0 in
          (first.0, (first.1, rest.1))

-- each of the mapped elements, and each element
pub All-mapped : {A B : Type 0} (f : A → B) (P : A → Type 0) (Q : B → Type 0) → ((x : A) → P x → Q (f x)) → (xs : List A) → AllByRecursion P xs
    → AllByRecursion Q (map f xs)
All-mapped f P Q g [] h = tt
All-mapped f P Q g (x ∷ xs) h = (g x h.0, All-mapped f P Q g xs h.1)

pub All-unmapped : {A B : Type 0} (f : A → B) (P : A → Type 0) (Q : B → Type 0) → ((x : A) → Q (f x) → P x) → (xs : List A) → AllByRecursion Q (map f xs)
    → AllByRecursion P xs
All-unmapped f P Q g [] h = tt
All-unmapped f P Q g (x ∷ xs) h = (g x h.0, All-unmapped f P Q g xs h.1)

-- a list of nothing repeats nothing
pub distinct-nil : {A : Type 0} (same : A → A → Bool) → IsDistinct same []
unfolding IsDistinct
distinct-nil same = tt
