-- The numbers of a direction by their names, one name after the other, and first those of the inputs. What is printed of a direction is
-- all of it: over the columns its names have the numbers that they had, 0 where a column has none.
use Rattle.std.proofs.Common.{◌≡◌, ℕ, ◌+◌, ◌<◌, ◌≤◌, suc, List, [], ◌∷◌, ◌++◌, length, drop, get_or, Some, refl, sym, ap, ap₂, ◌∙◌, append_assoc, arith, ℤ}
use Rattle.std.proofs.Common.{Bool, true, false, cond, ◌||◌, filter, map, subst}
use Rattle.std.specs.Prelude.{slice_get, IfOk, Result, Ok, Err, ◌≢◌}
use Rattle.std.specs.Ordering.{int_eq}
use Rattle.std.specs.Str.{bytes_eq}
use Rattle.std.specs.List.{IsDistinct, AllByRecursion}
use Rattle.std.proofs.lemmas.Bool.Decides.{Decides-int_eq}
use Rattle.std.proofs.lemmas.Cmp.{nat_list_eq_equiv}
use Rattle.std.proofs.lemmas.List.{append-nil}
use Rattle.std.proofs.lemmas.List.Elements.{All-nil, All-cons}
use Rattle.std.proofs.lemmas.Map.Keys.{IsDistinct-head, IsDistinct-tail}
use lib.IntN.{pos}
use Rattle.pa_math.proofs.Unions.{All-implied}
use Rattle.pa_contract.proofs.Steps.{drop-slice_get, drop-read}
use Rattle.pa_meaning.specs.Contracts.{Name, coefficient_at}
use Rattle.pa_meaning.specs.Composition.{is_among}
use Rattle.pa_meaning.proofs.Places.{coefficient_at-cons, coefficient_at-absent}
use Rattle.pa_cert.specs.Lists.{Heading}
use Rattle.pa_holds.specs.Answers.{IsAlong}
use Rattle.pa_holds.specs.Bounded.{over_columns}
use Rattle.pa_answers.specs.Answers.{with_number, with_numbers, heading_of}

pub with_both : (h : Heading) (ins outs : List Name) (ds : List ℤ) → length ins ≤ length ds
    → with_numbers (with_numbers h ins ds) outs (drop (length ins) ds) ≡ with_numbers h (ins ++ outs) ds
with_both h [] outs ds within = refl
with_both h (n ∷ ns) outs [] within = absurd (omega (arith, within))
with_both h (n ∷ ns) outs (d ∷ ds) within = with_both (with_number h n d) ns outs ds (omega (arith, within))

-- ---- one turn of each loop
pub names_more : (xs : List Name) (i : ℕ) (x : Name) (done now all : List Name) → now ≡ done ++ x ∷ [] → slice_get xs i ≡ Some x
    → done ++ drop i xs ≡ all → now ++ drop (i + 1) xs ≡ all
names_more xs i x done now all is found so_far =
    ap (λ l. l ++ drop (i + 1) xs) is ∙ append_assoc done (x ∷ []) (drop (i + 1) xs) ∙ sym (ap (λ l. done ++ l) (drop-slice_get xs i x found)) ∙ so_far

-- the name and the number at a place go on
at_place : (h : Heading) (ns : List Name) (ds : List ℤ) (n : Name) (d : ℤ) (i : ℕ) → drop i ns ≡ n ∷ drop (i + 1) ns → drop i ds ≡ d ∷ drop (i + 1) ds
    → with_numbers h (drop i ns) (drop i ds) ≡ with_numbers (with_number h n d) (drop (i + 1) ns) (drop (i + 1) ds)
at_place h ns ds n d i e f = rw (e, f) refl

pub numbers_more : (h now : Heading) (ns : List Name) (ds : List ℤ) (i : ℕ) (n : Name) (d : ℤ) (all : Heading) → now ≡ with_number h n d
    → slice_get ns i ≡ Some n → i < length ds → d ≡ get_or ds i d → with_numbers h (drop i ns) (drop i ds) ≡ all
    → with_numbers now (drop (i + 1) ns) (drop (i + 1) ds) ≡ all
numbers_more h now ns ds i n d all is found low read so_far =
    ap (λ x. with_numbers x (drop (i + 1) ns) (drop (i + 1) ds)) is
    ∙ sym (at_place h ns ds n d i (drop-slice_get ns i n found) (drop-read ds i d low read)) ∙ so_far

-- ---- the inputs and then the outputs
pub headed_both : {E : Type 0} (r : Result Heading E) (h : Heading) (ins outs : List Name) (ds : List ℤ) (k : ℕ) → length ins ≤ length ds → k ≡ length ins
    → h ≡ with_numbers (record { names = []; numbers = [] }) ins ds → IfOk r (λ x. x ≡ with_numbers h outs (drop k ds))
    → IfOk r (λ x. x ≡ heading_of (ins ++ outs) ds)
headed_both (Ok x) h ins outs ds k low many start is =
    is ∙ ap (λ g. with_numbers g outs (drop k ds)) start
    ∙ ap (λ j. with_numbers (with_numbers (record { names = []; numbers = [] }) ins ds) outs (drop j ds)) many
    ∙ with_both (record { names = []; numbers = [] }) ins outs ds low
headed_both (Err e) h ins outs ds k low many start is = tt

-- ---- the names that are kept, the first one first
abbrev with_first : Bool → Name → ℤ → Heading → Heading
with_first true n d h = h
with_first false n d h = record { names = n ∷ h.names; numbers = d ∷ h.numbers }

abbrev kept : List Name → List ℤ → Heading
kept [] ds = record { names = []; numbers = [] }
kept (n ∷ ns) [] = record { names = []; numbers = [] }
kept (n ∷ ns) (d ∷ ds) = with_first (int_eq d (pos 0)) n d (kept ns ds)

abbrev joined : Heading → Heading → Heading
joined h k = record { names = h.names ++ k.names; numbers = h.numbers ++ k.numbers }

none_joined : (h : Heading) → h ≡ joined h (record { names = []; numbers = [] })
none_joined h = ap₂ (λ names numbers. record { names = names; numbers = numbers }) (sym (append-nil h.names)) (sym (append-nil h.numbers))

with_numbers_is : (h : Heading) (ns : List Name) (ds : List ℤ) → with_numbers h ns ds ≡ joined h (kept ns ds)
with_numbers_is h [] ds = none_joined h
with_numbers_is h (n ∷ ns) [] = none_joined h
with_numbers_is h (n ∷ ns) (d ∷ ds) = with_numbers_is (with_number h n d) ns ds ∙ by (int_eq d (pos 0)) (kept ns ds)
  where
    by : (b : Bool) (k : Heading) → joined (cond b h (record { names = h.names ++ n ∷ []; numbers = h.numbers ++ d ∷ [] })) k ≡ joined h (with_first b n d k)
    by true k = refl
    by false k =
        ap₂ (λ names numbers. record { names = names; numbers = numbers }) (append_assoc h.names (n ∷ []) k.names) (append_assoc h.numbers (d ∷ []) k.numbers)

heading_is : (ns : List Name) (ds : List ℤ) → heading_of ns ds ≡ kept ns ds
heading_is ns ds = with_numbers_is (record { names = []; numbers = [] }) ns ds

-- ---- it says all of the direction
module _ {A : Type 0} where
  map_agree : {B : Type 0} (f g : A → B) (xs : List A) → AllByRecursion (λ x. f x ≡ g x) xs → map f xs ≡ map g xs
  map_agree f g [] h = refl
  map_agree f g (x ∷ xs) h = ap₂ ◌∷◌ h.0 (map_agree f g xs h.1)

  filter_agree : (p q : A → Bool) (xs : List A) → AllByRecursion (λ x. p x ≡ q x) xs → filter p xs ≡ filter q xs
  filter_agree p q [] h = refl
  filter_agree p q (x ∷ xs) h = ap₂ (λ b rest. cond b (x ∷ rest) rest) h.0 (filter_agree p q xs h.1)

not_among : (n : Name) (ns : List Name) → AllByRecursion (λ m. bytes_eq n m ≡ false) ns → is_among ns n ≡ false
not_among n [] h = refl
not_among n (m ∷ ns) h = ap₂ ◌||◌ h.0 (not_among n ns h.1)

neither : (a b : Bool) → (a || b) ≡ false → (a ≡ false) × (b ≡ false)
neither true b h = absurd (cc)
neither false b h = (refl, h)

-- what a heading of a direction is
record IsKept (ns : List Name) (ds : List ℤ) (h : Heading) : Type 0 where
  over : over_columns ns h ≡ ds
  along : IsAlong ns h
  absent : (m : Name) → is_among ns m ≡ false → is_among h.names m ≡ false

module _ (n : Name) (ns : List Name) (d : ℤ) (ds : List ℤ) (h : Heading) (other : AllByRecursion (λ m. bytes_eq n m ≡ false) ns) (k : IsKept ns ds h) where
  lacked : is_among h.names n ≡ false
  lacked = k.absent n (not_among n ns other)

  -- a 0 is not told
  zero_kept : d ≡ pos 0 → IsKept (n ∷ ns) (d ∷ ds) h
  zero_kept zero = record {
    over = ap₂ ◌∷◌ (coefficient_at-absent h.names h.numbers n lacked ∙ sym zero) k.over;
    along = record {
      names = k.along.names ∙ sym (ap (λ b. cond b (n ∷ filter (is_among h.names) ns) (filter (is_among h.names) ns)) lacked);
      numbers = k.along.numbers;
      nonzero = k.along.nonzero;
    };
    absent = λ m e. k.absent m (neither (bytes_eq m n) (is_among ns m) e).1;
  }

  abbrev longer : Heading
  longer = record { names = n ∷ h.names; numbers = d ∷ h.numbers }

  -- what is the same at any other name is the same at the names that are left
  at_others : {B : Type 0} (f g : Name → B) → ((m : Name) → bytes_eq m n ≡ false → f m ≡ g m) → AllByRecursion (λ m. f m ≡ g m) ns
  at_others f g same = All-implied (λ m. bytes_eq n m ≡ false) (λ m. f m ≡ g m) (λ m e. same m (nat_list_eq_equiv.symm m n ∙ e)) ns other

  same_number : (m : Name) → bytes_eq m n ≡ false → coefficient_at longer.names longer.numbers m ≡ coefficient_at h.names h.numbers m
  same_number m e = coefficient_at-cons n h.names d h.numbers m ∙ ap (λ b. cond b d (coefficient_at h.names h.numbers m)) e

  own_number : coefficient_at longer.names longer.numbers n ≡ d
  own_number = coefficient_at-cons n h.names d h.numbers n ∙ ap (λ b. cond b d (coefficient_at h.names h.numbers n)) (nat_list_eq_equiv.refl n)

  same_left : filter (is_among longer.names) ns ≡ h.names
  same_left =
      filter_agree (is_among longer.names) (is_among h.names) ns
      (at_others (is_among longer.names) (is_among h.names) (λ m e. ap (λ b. b || is_among h.names m) e)) ∙ sym k.along.names

  -- any other number is
  number_kept : d ≢ pos 0 → IsKept (n ∷ ns) (d ∷ ds) longer
  number_kept nonzero = record {
    over = ap₂ ◌∷◌ own_number (map_agree (coefficient_at longer.names longer.numbers) (coefficient_at h.names h.numbers) ns
        (at_others (coefficient_at longer.names longer.numbers) (coefficient_at h.names h.numbers) same_number) ∙ k.over);
    along = record {
      names = sym (ap (λ b. cond (b || is_among h.names n) (n ∷ filter (is_among longer.names) ns) (filter (is_among longer.names) ns))
          (nat_list_eq_equiv.refl n) ∙ ap (λ rest. n ∷ rest) same_left);
      numbers = ap (λ i. suc i) k.along.numbers;
      nonzero = All-cons (λ z. z ≢ pos 0) d h.numbers nonzero k.along.nonzero;
    };
    absent = λ m e. let (first, rest) = neither (bytes_eq m n) (is_among ns m) e in ap₂ ◌||◌ first (k.absent m rest);
  }

  first_kept : (b : Bool) → int_eq d (pos 0) ≡ b → IsKept (n ∷ ns) (d ∷ ds) (with_first b n d h)
  first_kept true is = zero_kept ((Decides-int_eq d (pos 0)).0 is)
  first_kept false is = number_kept (λ zero. let told : int_eq d (pos 0) ≡ true = (Decides-int_eq d (pos 0)).1 zero in cc)

kept_is : (ns : List Name) (ds : List ℤ) → IsDistinct bytes_eq ns → length ds ≡ length ns → IsKept ns ds (kept ns ds)
kept_is [] [] d e = record { over = refl; along = record { names = refl; numbers = refl; nonzero = All-nil (λ z. z ≢ pos 0) }; absent = λ m f. refl }
kept_is [] (x ∷ xs) d e = absurd (omega arith)
kept_is (n ∷ ns) [] d e = absurd (omega arith)
kept_is (n ∷ ns) (x ∷ xs) d e =
    first_kept n ns x xs (kept ns xs) (IsDistinct-head bytes_eq n ns d) (kept_is ns xs (IsDistinct-tail bytes_eq n ns d) (omega arith))
    (int_eq x (pos 0)) refl

module _ (names : List Name) (ds : List ℤ) (different : IsDistinct bytes_eq names) (long : length ds ≡ length names) where
  pub heading_over : over_columns names (heading_of names ds) ≡ ds
  heading_over = ap (over_columns names) (heading_is names ds) ∙ (kept_is names ds different long).over

  pub heading_along : IsAlong names (heading_of names ds)
  heading_along = subst (IsAlong names) (sym (heading_is names ds)) (kept_is names ds different long).along
