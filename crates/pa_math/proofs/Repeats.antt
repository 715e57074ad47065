-- Lists without repetition: leaving repeats out twice changes nothing.
use Rattle.std.proofs.Common.{◌≡◌, ℕ, zero, suc, Bool, true, false, cond, List, [], ◌∷◌, ◌++◌, take, fold, refl, sym, ap, ◌∙◌, append_assoc, arith, All}
use Rattle.std.specs.List.{list_any}
use Rattle.std.proofs.lemmas.List.{append-nil}
use Rattle.std.proofs.lemmas.List.Elements.{All-push}
use Rattle.pa_math.specs.Lists.{with_new, without_repeats}

module _ {A : Type 0} (same : A → A → Bool) where
  -- each of xs is new after those before it
  abbrev pub AreNew : List A → List A → Type 0
  AreNew before [] = Unit {0}
  AreNew before (x ∷ xs) = (list_any (same x) before ≡ false) × AreNew (before ++ x ∷ []) xs

  -- what is new is added whole
  pub union-new : (before xs : List A) → AreNew before xs → fold (with_new same) before xs ≡ before ++ xs
  union-new before [] new = sym (append-nil before)
  union-new before (x ∷ xs) new =
      ap (λ b. fold (with_new same) (cond b before (before ++ x ∷ [])) xs) new.0
      ∙ union-new (before ++ x ∷ []) xs new.1 ∙ append_assoc before (x ∷ []) xs

  -- the front of what is new is new
  pub AreNew-take : (before : List A) (n : ℕ) (xs : List A) → AreNew before xs → AreNew before (take n xs)
  AreNew-take before zero xs new = tt
  AreNew-take before (suc n) [] new = tt
  AreNew-take before (suc n) (x ∷ xs) new = (new.0, AreNew-take (before ++ x ∷ []) n xs new.1)

  -- one more that is new
  pub AreNew-push : (before xs : List A) (x : A) → AreNew before xs → list_any (same x) (before ++ xs) ≡ false → AreNew before (xs ++ x ∷ [])
  AreNew-push before [] x new fresh = (ap (list_any (same x)) (sym (append-nil before)) ∙ fresh, tt)
  AreNew-push before (y ∷ xs) x new fresh =
      (new.0, AreNew-push (before ++ y ∷ []) xs x new.1 (ap (list_any (same x)) (append_assoc before (y ∷ []) xs) ∙ fresh))

  with_new-AreNew : (xs : List A) (x : A) (b : Bool) → list_any (same x) xs ≡ b → AreNew [] xs → AreNew [] (cond b xs (xs ++ x ∷ []))
  with_new-AreNew xs x true found new = new
  with_new-AreNew xs x false fresh new = AreNew-push [] xs x new fresh

  union-AreNew : (xs ys : List A) → AreNew [] xs → AreNew [] (fold (with_new same) xs ys)
  union-AreNew xs [] new = new
  union-AreNew xs (y ∷ ys) new = union-AreNew (with_new same xs y) ys (with_new-AreNew xs y (list_any (same y) xs) refl new)

  -- each element that is not left out is new
  pub without_repeats-AreNew : (xs : List A) → AreNew [] (without_repeats same xs)
  without_repeats-AreNew xs = union-AreNew [] xs tt

  -- nothing is left out of a front of a list without repeats
  pub without_repeats-take : (n : ℕ) (xs : List A) → without_repeats same (take n (without_repeats same xs)) ≡ take n (without_repeats same xs)
  without_repeats-take n xs = union-new [] (take n (without_repeats same xs)) (AreNew-take [] n (without_repeats same xs) (without_repeats-AreNew xs))

  with_new-All : (P : A → Type 0) (xs : List A) (x : A) (b : Bool) → All P xs → P x → All P (cond b xs (xs ++ x ∷ []))
  with_new-All P xs x true all one = all
  with_new-All P xs x false all one = All-push P xs x all one

  union-All : (P : A → Type 0) (xs ys : List A) → All P xs → All P ys → All P (fold (with_new same) xs ys)
  union-All P xs [] all more = all
  union-All P xs (y ∷ ys) all more =
      union-All P (with_new same xs y) ys (with_new-All P xs y (list_any (same y) xs) all (more 0 y (omega arith))) (λ k d within. more (suc k) d (omega arith))

  -- what holds of each element holds of those that are not left out
  pub without_repeats-All : (P : A → Type 0) (xs : List A) → All P xs → All P (without_repeats same xs)
  without_repeats-All P xs all = union-All P [] xs (λ k d within. absurd (omega arith)) all
