-- What a turn of a filter does to the rows that are left, to their places and to the drops.
use Rattle.std.proofs.Common.{◌≡◌, ◌↔◌, ◌⊎◌, inl, inr, rules, refl, sym, ap, ap₂, ◌∙◌, subst, ℕ, zero, suc, ◌+◌, ◌-◌, ◌<◌, ◌≤◌, Bool, true, false}
use Rattle.std.proofs.Common.{◌||◌, cond, nat_eq}
use Rattle.std.proofs.Common.{List, [], ◌∷◌, ◌++◌, append_assoc, append-nil, add-one, length, length-append, take, drop, map, get_or, All, AllPairs}
use Rattle.std.proofs.Common.{Result, Ok, Err, Option, None, Some, arith}
use Rattle.std.proofs.Math.Seq.{drop-cons, take-suc, take-append_seam}
use Rattle.std.proofs.lemmas.List.{length-drop, length-take-le, take-append-drop, map-append}
use Rattle.std.proofs.lemmas.List.Kept.{AllPairs-cons}
use Rattle.std.proofs.lemmas.List.Quantifiers.{all_pairs_push}
use Rattle.std.proofs.lemmas.List.Elements.{All-nil, All-cons, All-head, All-tail, All-append, All-get_or, All-map, All-push, All-weaker}
use Rattle.std.specs.List.{insert, remove}
use Rattle.pa_tableau.specs.Work.{HasRoom, Work}
use Rattle.pa_bland.specs.Seen.{KeepsRoom}
use lib.IntN.{ℤ, pos, ◌+ℤ◌, ◌*ℤ◌}
use lib.Signed.{◌≤ℤ◌}
use Rattle.pa_math.specs.Answers.{and_then, given, told_as}
use Rattle.pa_math.proofs.Answers.{ok_same}
use Rattle.pa_fourier.specs.declared.fault.CleanFault.{CleanFault}
use Rattle.pa_fourier.specs.Cleaning.{clean_in}
use Rattle.pa_ring.specs.Sums.{sum_of, times}
use Rattle.pa_meaning.specs.Rows.{MeetsAll, Row, row_at}
use Rattle.pa_meaning.specs.Weights.{AllPlaced, Implies, IsContradiction, NoneNegative, Proves, Weights, combined}
use Rattle.pa_witness.specs.Thinning.{Dropped, DropsHold, NamesNone, ThinningHolds, cleaned, is_place_of, places_of, thinned, without_places}
use Rattle.pa_witness.proofs.Fewer.{thinned_fewer}
use Rattle.pa_witness.proofs.Projection.{thinned_met}
use Rattle.pa_witness.proofs.Widths.{cleaned_columns}
use Rattle.pa_row.specs.declared.place.Group.{Group}
use Rattle.pa_row.specs.declared.place.Halt.{Halt}
use Rattle.pa_row.specs.declared.place.Task.TheVariants.{Filter}
use Rattle.pa_row.proofs.Turns.{row_at_read}
use Rattle.pa_farkas.specs.Answered.{at_places, clean_halt, covered_of, dropped_at, filtered, thinned_of, with_row}
use Rattle.pa_farkas.specs.Alternatives.{IsThinning}
use Rattle.pa_farkas.specs.Seen.{CanStart, Filtering, IsFiltered, IsNext, IsReady, InHand, asked_about, dropped, left, left_up_to, numbers_from}
use Rattle.pa_farkas.specs.Seen.{put_back, start_of, taken}
use Rattle.pa_farkas.proofs.Filters.{AreBelow, dropped_it, get_or-numbers_from, left_append, length-numbers_from, none_gone, numbers_left}
use Rattle.pa_farkas.proofs.Filters.{put_in_again, read_there, removed, row_there, rows_left, same_length_left, with_it, without_it}

-- ---- a list around its i-th element
pub record Around {A : Type 0} (gone : List ℕ) (i : ℕ) (xs : List A) (d : A) : Type 0 where
  pub here : left_up_to gone i xs ≡ left gone 0 (take i xs) ++ get_or xs i d ∷ drop (suc i) xs
  pub without : remove (left_up_to gone i xs) (length (left gone 0 (take i xs))) ≡ left (i ∷ gone) 0 xs
  pub read : get_or (left_up_to gone i xs) (length (left gone 0 (take i xs))) d ≡ get_or xs i d
  pub stays : left_up_to gone (suc i) xs ≡ left_up_to gone i xs
  pub counted : length (left gone 0 (take (suc i) xs)) ≡ suc (length (left gone 0 (take i xs)))
  pub goes : left_up_to (gone ++ i ∷ []) (suc i) xs ≡ left (i ∷ gone) 0 xs
  pub goes_counted : length (left (gone ++ i ∷ []) 0 (take (suc i) xs)) ≡ length (left gone 0 (take i xs))

pub around : {A : Type 0} (gone : List ℕ) (i : ℕ) (xs : List A) (d : A) → i < length xs → AreBelow i gone → Around gone i xs d
around {A} gone i xs d h below = record {
  here = here;
  without = ap (λ ys. remove ys (length k)) here ∙ removed k x rest (length k) refl ∙ sym (whole_without);
  read = ap (λ ys. get_or ys (length k) d) here ∙ read_there k x rest (length k) d refl;
  stays = ap (λ (f : List A). left gone 0 f ++ rest) more ∙ ap (λ (f : List A). f ++ rest) (with_it gone i front x rest front_is below)
      ∙ append_assoc k (x ∷ []) rest ∙ sym here;
  counted = ap (λ (f : List A). length (left gone 0 f)) more ∙ ap length (with_it gone i front x rest front_is below) ∙ length-append k (x ∷ [])
      ∙ add-one (length k);
  goes = ap (λ (f : List A). left (gone ++ i ∷ []) 0 f ++ rest) more ∙ ap (λ (f : List A). f ++ rest) (dropped_it gone i front x rest front_is below)
      ∙ sym whole_without;
  goes_counted = ap (λ (f : List A). length (left (gone ++ i ∷ []) 0 f)) more ∙ ap length (dropped_it gone i front x rest front_is below);
}
  where
    front : List A
    front = take i xs

    x : A
    x = get_or xs i d

    rest : List A
    rest = drop (suc i) xs

    k : List A
    k = left gone 0 front

    front_is : length front ≡ i
    front_is = length-take-le i xs (omega (arith, h))

    split : drop i xs ≡ x ∷ rest
    split = drop-cons xs i d h

    more : take (suc i) xs ≡ front ++ x ∷ []
    more = take-suc xs i d h

    here : left_up_to gone i xs ≡ k ++ x ∷ rest
    here = ap (λ (r : List A). k ++ r) split

    whole_without : left (i ∷ gone) 0 xs ≡ k ++ rest
    whole_without = ap (left (i ∷ gone) 0) (sym (take-append-drop i xs) ∙ ap (λ (r : List A). front ++ r) split) ∙ without_it gone i front x rest front_is below

-- what is left of the whole list, where no later place is gone
whole : {A : Type 0} (gone : List ℕ) (i : ℕ) (xs : List A) → i ≤ length xs → AreBelow i gone → left_up_to gone i xs ≡ left gone 0 xs
whole {A} gone i xs l below = sym (ap (left gone 0) (sym (take-append-drop i xs)) ∙ left_append gone 0 (take i xs) (drop i xs)
    ∙ ap (λ (rest : List A). left gone 0 (take i xs) ++ rest) (ap (λ k. left gone k (drop i xs))
    (let front : 0 + length (take i xs) ≡ i = (let long = length-take-le i xs l in omega (arith, long)) in front) ∙ none_gone gone i (drop i xs) below))

-- what holds of each element holds of those that are left
All-left : {A : Type 0} (P : A → Type 0) (gone : List ℕ) (i : ℕ) (xs : List A) → All P xs → All P (left gone i xs)
All-left P gone i [] h = h
All-left {A} P gone i (x ∷ xs) h = by (is_place_of gone i) (All-left P gone (suc i) xs (All-tail P x xs h))
  where
    by : (b : Bool) → All P (left gone (suc i) xs) → All P (cond b (left gone (suc i) xs) (x ∷ left gone (suc i) xs))
    by true rest = rest
    by false rest = All-cons P x (left gone (suc i) xs) (All-head P x xs h) rest

left_fewer : {A : Type 0} (gone : List ℕ) (i : ℕ) (xs : List A) → length (left gone i xs) ≤ length xs
left_fewer gone i [] = omega arith
left_fewer {A} gone i (x ∷ xs) = by (is_place_of gone i) (left_fewer gone (suc i) xs)
  where
    by : (b : Bool) → length (left gone (suc i) xs) ≤ length xs → length (cond b (left gone (suc i) xs) (x ∷ left gone (suc i) xs)) ≤ suc (length xs)
    by true l = omega (arith, l)
    by false l = omega (arith, l)

-- the places ascend
places_above : (gone : List ℕ) (i n : ℕ) → All (λ j. i ≤ j) (left gone i (numbers_from i n))
places_above gone i zero = All-nil (λ j. i ≤ j)
places_above gone i (suc n) = by (is_place_of gone i)
    (All-weaker (λ j. suc i ≤ j) (λ j. i ≤ j) (λ j l. omega (arith, l)) (left gone (suc i) (numbers_from (suc i) n)) (places_above gone (suc i) n))
  where
    by : (b : Bool) → All (λ j. i ≤ j) (left gone (suc i) (numbers_from (suc i) n))
        → All (λ j. i ≤ j) (cond b (left gone (suc i) (numbers_from (suc i) n)) (i ∷ left gone (suc i) (numbers_from (suc i) n)))
    by true h = h
    by false h = All-cons (λ j. i ≤ j) i (left gone (suc i) (numbers_from (suc i) n)) (omega arith) h

places_ascend : (gone : List ℕ) (i n : ℕ) → AllPairs (λ (a b : ℕ). a < b) (left gone i (numbers_from i n))
places_ascend gone i zero = AllPairs-nil
  where
    AllPairs-nil : AllPairs (λ (a b : ℕ). a < b) []
    AllPairs-nil = search rules
places_ascend gone i (suc n) = by (is_place_of gone i) (places_ascend gone (suc i) n)
  where
    by : (b : Bool) → AllPairs (λ (a b : ℕ). a < b) (left gone (suc i) (numbers_from (suc i) n))
        → AllPairs (λ (a b : ℕ). a < b) (cond b (left gone (suc i) (numbers_from (suc i) n)) (i ∷ left gone (suc i) (numbers_from (suc i) n)))
    by true h = h
    by false h = AllPairs-cons (λ (a b : ℕ). a < b) i (left gone (suc i) (numbers_from (suc i) n))
        (All-weaker (λ j. suc i ≤ j) (λ j. i < j) (λ j l. omega (arith, l)) (left gone (suc i) (numbers_from (suc i) n)) (places_above gone (suc i) n)) h

-- ---- weights over the rows that are left, by their places
row_left : (all : List Row) (gone : List ℕ) (i : ℕ) (rows : List Row) → ((j : ℕ) → row_at rows j ≡ row_at all (i + j)) → (k : ℕ)
    → k < length (left gone i rows) → row_at (left gone i rows) k ≡ row_at all (get_or (left gone i (numbers_from i (length rows))) k 0)
row_left all gone i [] same k h = absurd (omega (arith, h))
row_left all gone i (r ∷ rows) same k h = by (is_place_of gone i) k h (λ k h. row_left all gone (suc i) rows next k h)
  where
    next : (j : ℕ) → row_at rows j ≡ row_at all (suc i + j)
    next j = same (suc j) ∙ ap (row_at all) (omega arith)

    later : List Row
    later = left gone (suc i) rows

    places : List ℕ
    places = left gone (suc i) (numbers_from (suc i) (length rows))

    by : (b : Bool) → (k : ℕ) → k < length (cond b later (r ∷ later)) → ((k : ℕ) → k < length later → row_at later k ≡ row_at all (get_or places k 0))
        → row_at (cond b later (r ∷ later)) k ≡ row_at all (get_or (cond b places (i ∷ places)) k 0)
    by true k h rest = rest k h
    by false zero h rest = same zero ∙ ap (row_at all) (omega arith)
    by false (suc k) h rest = rest k (omega (arith, h))

-- the place of each of them is one of the list, and not gone
places_below : (gone : List ℕ) (i n : ℕ) → All (λ j. j < i + n) (left gone i (numbers_from i n))
places_below gone i zero = All-nil (λ j. j < i + zero)
places_below gone i (suc n) = by (is_place_of gone i) (subst (λ m. All (λ j. j < m) (left gone (suc i) (numbers_from (suc i) n))) (omega arith)
    (places_below gone (suc i) n))
  where
    by : (b : Bool) → All (λ j. j < i + suc n) (left gone (suc i) (numbers_from (suc i) n))
        → All (λ j. j < i + suc n) (cond b (left gone (suc i) (numbers_from (suc i) n)) (i ∷ left gone (suc i) (numbers_from (suc i) n)))
    by true h = h
    by false h = All-cons (λ j. j < i + suc n) i (left gone (suc i) (numbers_from (suc i) n)) (omega arith) h

places_there : (gone : List ℕ) (i n : ℕ) → All (λ j. is_place_of gone j ≡ false) (left gone i (numbers_from i n))
places_there gone i zero = All-nil (λ j. is_place_of gone j ≡ false)
places_there gone i (suc n) = by (is_place_of gone i) refl (places_there gone (suc i) n)
  where
    by : (b : Bool) → is_place_of gone i ≡ b → All (λ j. is_place_of gone j ≡ false) (left gone (suc i) (numbers_from (suc i) n))
        → All (λ j. is_place_of gone j ≡ false) (cond b (left gone (suc i) (numbers_from (suc i) n)) (i ∷ left gone (suc i) (numbers_from (suc i) n)))
    by true e h = h
    by false e h = All-cons (λ j. is_place_of gone j ≡ false) i (left gone (suc i) (numbers_from (suc i) n)) e h

module _ (all : List Row) (gone : List ℕ) where
  abbrev rest : List Row
  rest = left gone 0 all

  abbrev places : List ℕ
  places = left gone 0 (numbers_from 0 (length all))

  as_many : length places ≡ length rest
  as_many = same_length_left gone 0 (numbers_from 0 (length all)) all (length-numbers_from 0 (length all))

  there : (k : ℕ) → k < length rest → row_at rest k ≡ row_at all (get_or places k 0)
  there k h = row_left all gone 0 all (λ j. ap (row_at all) (omega arith)) k h

  abbrev by_places : List (ℕ × ℤ) → List (ℕ × ℤ)
  by_places parts = map (λ (part : ℕ × ℤ). (get_or places part.0 0, part.1)) parts

  combined_same : (parts : List (ℕ × ℤ)) → AllPlaced parts rest → combined (by_places parts) all ≡ combined parts rest
  combined_same [] h = refl
  combined_same (part ∷ parts) h =
      ap₂ (λ (r s : Row). record { c = sum_of (times part.1 r.c) s.c; b = part.1 *ℤ r.b +ℤ s.b })
      (sym (there part.0 (All-head (λ (part : ℕ × ℤ). part.0 < length rest) part parts h)))
      (combined_same parts (All-tail (λ (part : ℕ × ℤ). part.0 < length rest) part parts h))

  none_negative_same : (parts : List (ℕ × ℤ)) → NoneNegative parts → NoneNegative (by_places parts)
  none_negative_same [] h = All-nil (λ (part : ℕ × ℤ). pos 0 ≤ℤ part.1)
  none_negative_same (part ∷ parts) h =
      All-cons (λ (part : ℕ × ℤ). pos 0 ≤ℤ part.1) (get_or places part.0 0, part.1) (by_places parts)
      (All-head (λ (part : ℕ × ℤ). pos 0 ≤ℤ part.1) part parts h)
      (none_negative_same parts (All-tail (λ (part : ℕ × ℤ). pos 0 ≤ℤ part.1) part parts h))

  -- what holds of each place holds of the places of the parts
  of_parts : (P : ℕ → Type 0) → All P places → (parts : List (ℕ × ℤ)) → AllPlaced parts rest → All (λ (part : ℕ × ℤ). P part.0) (by_places parts)
  of_parts P each [] h = All-nil (λ (part : ℕ × ℤ). P part.0)
  of_parts P each (part ∷ parts) h =
      let inside : part.0 < length rest = All-head (λ (part : ℕ × ℤ). part.0 < length rest) part parts h in
      All-cons (λ (part : ℕ × ℤ). P part.0) (get_or places part.0 0, part.1) (by_places parts)
      (All-get_or P places part.0 0 (omega (arith, inside, as_many)) each)
      (of_parts P each parts (All-tail (λ (part : ℕ × ℤ). part.0 < length rest) part parts h))

  pub proves_by_places : (w : Weights) (row : Row) → Proves w rest row → Proves (at_places places w) all row
  proves_by_places w row p = record {
    positive = p.positive;
    weights = none_negative_same w.parts p.weights;
    places = of_parts (λ j. j < length all) (subst (λ n. All (λ j. j < n) places) (omega arith) (places_below gone 0 (length all))) w.parts p.places;
    shown = subst (λ (sum : Row). Implies w.den sum row ⊎ IsContradiction sum) (sym (combined_same w.parts p.places)) p.shown;
  }

  pub names_none : (w : Weights) → AllPlaced w.parts rest → NamesNone gone (at_places places w)
  names_none w h = of_parts (λ j. is_place_of gone j ≡ false) (places_there gone 0 (length all)) w.parts h

-- ---- one drop more
NamesNone_same : (g h : List ℕ) (w : Weights) → ((j : ℕ) → is_place_of g j ≡ is_place_of h j) → NamesNone g w → NamesNone h w
NamesNone_same g h w same n = All-weaker (λ (part : ℕ × ℤ). is_place_of g part.0 ≡ false) (λ (part : ℕ × ℤ). is_place_of h part.0 ≡ false)
    (λ part e. sym (same part.0) ∙ e) w.parts n

is_place_append : (g h : List ℕ) (j : ℕ) → is_place_of (g ++ h) j ≡ (is_place_of g j || is_place_of h j)
is_place_append [] h j = refl
is_place_append (g ∷ gs) h j = ap (λ b. nat_eq j g || b) (is_place_append gs h j) ∙ assoc (nat_eq j g) (is_place_of gs j) (is_place_of h j)
  where
    assoc : (a b c : Bool) → (a || (b || c)) ≡ ((a || b) || c)
    assoc true b c = refl
    assoc false b c = refl

moved_place : (d e : ℕ) (places gone : List ℕ) (j : ℕ) → is_place_of (d ∷ (e ∷ places) ++ gone) j ≡ is_place_of (d ∷ places ++ e ∷ gone) j
moved_place d e places gone j = ap (λ b. nat_eq j d || b) (ap (λ b. nat_eq j e || b) (is_place_append places gone j)
    ∙ swapped (nat_eq j e) (is_place_of places j) (is_place_of gone j) ∙ sym (is_place_append places (e ∷ gone) j))
  where
    swapped : (a b c : Bool) → (a || (b || c)) ≡ (b || (a || c))
    swapped true true c = refl
    swapped true false c = refl
    swapped false true c = refl
    swapped false false c = refl

holds_push : (rows : List Row) (gone : List ℕ) (drops : List Dropped) (d : Dropped) → DropsHold rows gone drops → Proves d.weights rows (row_at rows d.row)
    → NamesNone (d.row ∷ places_of drops ++ gone) d.weights → DropsHold rows gone (drops ++ d ∷ [])
holds_push rows gone [] d h proves names = (proves, names, tt)
holds_push rows gone (e ∷ drops) d h proves names = (
  h.0,
  h.1,
  holds_push rows (e.row ∷ gone) drops d h.2 proves
      (NamesNone_same (d.row ∷ (e.row ∷ places_of drops) ++ gone) (d.row ∷ places_of drops ++ e.row ∷ gone) d.weights
      (moved_place d.row e.row (places_of drops) gone) names),
)

-- ---- one turn of the filter
module _ (all : List Row) (i : ℕ) (f : Filtering) (is : IsFiltered all i f) (h : i < length all) where
  abbrev gone : List ℕ
  gone = places_of f.drops

  abbrev range : List ℕ
  range = numbers_from 0 (length all)

  in_range : i < length range
  in_range = subst (λ n. i < n) (sym (length-numbers_from 0 (length all))) h

  below : AreBelow i gone
  below = All-map (λ g. g < i) (λ (d : Dropped). d.row) f.drops is.below.1

  abbrev none : Row
  none = record { c = []; b = pos 0 }

  rows : Around gone i all none
  rows = around gone i all none h below

  numbers : Around gone i range 0
  numbers = around gone i range 0 in_range below

  next_place : f.next ≡ length (left gone 0 (take i range))
  next_place = is.next ∙ same_length_left gone 0 (take i all) (take i range)
      (length-take-le i all (omega (arith, h)) ∙ sym (length-take-le i range (omega (arith, in_range))))

  abbrev t : InHand
  t = taken f

  others_are : t.others.rows ≡ without_places (i ∷ gone) 0 all
  others_are = ap₂ (λ (xs : List Row) k. remove xs k) is.rows is.next ∙ rows.without ∙ sym (rows_left (i ∷ gone) 0 all)

  hand_is : t.row ≡ row_at all i
  hand_is = ap₂ (λ (xs : List Row) k. row_at xs k) is.rows is.next
      ∙ ap (λ (xs : List Row). row_at xs (length (left gone 0 (take i all)))) rows.here
      ∙ row_there (left gone 0 (take i all)) (get_or all i none) (drop (suc i) all) (length (left gone 0 (take i all))) refl
      ∙ sym (row_at_read all i none h)

  pub place_is : t.place ≡ i
  place_is = ap₂ (λ (xs : List ℕ) k. get_or xs k 0) is.places next_place ∙ numbers.read ∙ get_or-numbers_from 0 (length all) i 0 h ∙ omega arith

  places_are : t.others.places ≡ left (i ∷ gone) 0 range
  places_are = ap₂ (λ (xs : List ℕ) k. remove xs k) is.places next_place ∙ numbers.without

  drop_is : (w : Weights) → dropped_at all gone i w ≡ record { row = t.place; weights = at_places t.others.places w }
  drop_is w = ap₂ (λ p (ps : List ℕ). record { row = p; weights = at_places ps w }) (sym place_is)
      (numbers_left (i ∷ gone) 0 (length all) ∙ sym places_are)

  -- what was taken is put back where it was
  again : put_back t ≡ record { rows = f.rows; places = f.places; drops = f.drops; next = f.next + 1 }
  again = ap₂ (λ (rs : List Row) (ps : List ℕ). let g : Filtering = record { rows = rs; places = ps; drops = f.drops; next = f.next + 1 } in g)
      rows_again places_again
    where
      rows_again : insert t.others.rows f.next t.row ≡ f.rows
      rows_again = ap₂ (λ (xs : List Row) r. insert xs f.next r)
          (ap₂ (λ (xs : List Row) k. remove xs k) (is.rows ∙ rows.here) is.next ∙ removed (left gone 0 (take i all)) (get_or all i none) (drop (suc i) all)
          (length (left gone 0 (take i all))) refl) (hand_is ∙ row_at_read all i none h)
          ∙ put_in_again (left gone 0 (take i all)) (get_or all i none) (drop (suc i) all) f.next is.next ∙ sym (is.rows ∙ rows.here)

      places_again : insert t.others.places f.next t.place ≡ f.places
      places_again = ap₂ (λ (xs : List ℕ) p. insert xs f.next p)
          (ap₂ (λ (xs : List ℕ) k. remove xs k) (is.places ∙ numbers.here) next_place
          ∙ removed (left gone 0 (take i range)) (get_or range i 0) (drop (suc i) range)
          (length (left gone 0 (take i range))) refl) (ap₂ (λ (xs : List ℕ) k. get_or xs k 0) is.places next_place ∙ numbers.read)
          ∙ put_in_again (left gone 0 (take i range)) (get_or range i 0) (drop (suc i) range) f.next next_place ∙ sym (is.places ∙ numbers.here)

  rows_whole : f.rows ≡ left gone 0 all
  rows_whole = is.rows ∙ whole gone i all (omega (arith, h)) below

  places_whole : f.places ≡ left gone 0 range
  places_whole = is.places ∙ whole gone i range (omega (arith, in_range)) below

  pub next_inside : f.next < length f.rows
  next_inside =
      let long : length f.rows ≡ length (left gone 0 (take i all)) + suc (length (drop (suc i) all)) =
      ap length (is.rows ∙ rows.here) ∙ length-append (left gone 0 (take i all)) (get_or all i none ∷ drop (suc i) all) in
      let there = is.next in
      omega (arith, long, there)

  pub place_inside : f.next < length f.places
  place_inside =
      let same : length f.places ≡ length f.rows = ap length places_whole ∙ same_length_left gone 0 range all (length-numbers_from 0 (length all))
      ∙ sym (ap length rows_whole) in
      let inside = next_inside in
      omega (arith, same, inside)

  -- there are as many others as are left in front and behind
  others_count : length t.others.rows ≡ length (left gone 0 (take i all)) + length (drop (suc i) all)
  others_count = ap length (ap₂ (λ (xs : List Row) k. remove xs k) (is.rows ∙ rows.here) is.next
      ∙ removed (left gone 0 (take i all)) (get_or all i none) (drop (suc i) all) (length (left gone 0 (take i all))) refl)
      ∙ length-append (left gone 0 (take i all)) (drop (suc i) all)

  hand_columns : (n : ℕ) → All (λ (r : Row). length r.c ≡ n) all → length t.row.c ≡ n
  hand_columns n columns = ap (λ (r : Row). length r.c) (hand_is ∙ row_at_read all i none h) ∙ All-get_or (λ (r : Row). length r.c ≡ n) all i none h columns

  others_fewer : length t.others.rows < length all
  others_fewer =
      let count = others_count in
      let front : length (left gone 0 (take i all)) ≤ length (take i all) = left_fewer gone 0 (take i all) in
      let front_is : length (take i all) ≡ i = length-take-le i all (omega (arith, h)) in
      let rest : length (drop (suc i) all) ≡ length all - suc i = length-drop (suc i) all in
      omega (arith, count, front, front_is, rest, h)

  -- the row in hand can be asked about
  pub ready : (n : ℕ) → CanStart n all → IsReady t
  ready n can = record {
    next = (let count = others_count in let there = is.next in omega (arith, count, there));
    fewer = (let fewer = others_fewer in let few = can.few in omega (arith, fewer, few));
    places = ap length places_are ∙ same_length_left (i ∷ gone) 0 range all (length-numbers_from 0 (length all))
        ∙ sym (ap length (others_are ∙ rows_left (i ∷ gone) 0 all));
    ascending = subst (λ (ps : List ℕ). AllPairs (λ (a b : ℕ). a < b) ps) (sym places_are) (places_ascend (i ∷ gone) 0 (length all));
    columns = subst (λ (xs : List Row). All (λ (r : Row). length r.c ≡ length t.row.c) xs) (sym (others_are ∙ rows_left (i ∷ gone) 0 all))
        (All-left (λ (r : Row). length r.c ≡ length t.row.c) (i ∷ gone) 0 all
        (All-weaker (λ (r : Row). length r.c ≡ n) (λ (r : Row). length r.c ≡ length t.row.c) (λ r e. e ∙ sym (hand_columns n can.columns)) all can.columns));
    short = (let same = hand_columns n can.columns in let short = can.short in omega (arith, same, short));
  }

  pub has_room : (n : ℕ) (old work : Work) → CanStart n all → HasRoom n (length all) old → KeepsRoom old work
      → HasRoom (length t.row.c) (length t.others.rows) work
  has_room n old work can room keeps = record {
    lines = (let same = hand_columns n can.columns in let lines = room.lines in let stays = keeps.lines in omega (arith, same, lines, stays));
    rows = (let fewer = others_fewer in let rows = room.rows in let stays = keeps.rows in omega (arith, fewer, rows, stays));
  }

  -- the turn asks what the filter of the whole list asks
  pub told : (group : Group) (most : ℕ) → with_row group all most f.drops i ≡ and_then (asked_about group most t) (λ g. Ok g.drops)
  told group most = by (covered_of t.others.rows t.row most (Filter group t.place)) asked
    where
      asked : covered_of (without_places (i ∷ gone) 0 all) (row_at all i) most (Filter group i) ≡ covered_of t.others.rows t.row most (Filter group t.place)
      asked = ap (λ xs. covered_of xs (row_at all i) most (Filter group i)) (sym others_are)
          ∙ ap (λ r. covered_of t.others.rows r most (Filter group i)) (sym hand_is)
          ∙ ap (λ p. covered_of t.others.rows t.row most (Filter group p)) (sym place_is)

      by : (r : Result (Option Weights) Halt) → covered_of (without_places (i ∷ gone) 0 all) (row_at all i) most (Filter group i) ≡ r
          → with_row group all most f.drops i ≡ and_then (and_then r (λ found. Ok (given (put_back t) found (dropped t)))) (λ g. Ok g.drops)
      by (Err e) h = rw h refl
      by (Ok None) h = rw h refl
      by (Ok (Some w)) h = rw h (ap (λ d. Ok (f.drops ++ d ∷ [])) (drop_is w))

  -- and its rows, places and drops are those of the whole list
  pub stepped : (g : Filtering) → IsNext t g → IsFiltered all (suc i) g
  stepped g (inl same) = subst (IsFiltered all (suc i)) (sym (same ∙ again)) (record {
    below = (is.below.0, All-weaker (λ (d : Dropped). d.row < i) (λ (d : Dropped). d.row < suc i) (λ d l. omega (arith, l)) f.drops is.below.1);
    rows = is.rows ∙ sym rows.stays;
    places = is.places ∙ sym numbers.stays;
    next = ap (λ k. k + 1) is.next ∙ add-one (length (left gone 0 (take i all))) ∙ sym rows.counted;
    shown = is.shown;
  })
  stepped g (inr (w, same, proves)) = subst (IsFiltered all (suc i)) (sym same) (record {
    below = (
      all_pairs_push (λ (d e : Dropped). d.row < e.row) f.drops new is.below.0 (λ k d l. lower (get_or f.drops k d)
          (All-get_or (λ (d : Dropped). d.row < i) f.drops k d l is.below.1)),
      All-push (λ (d : Dropped). d.row < suc i) f.drops new
          (All-weaker (λ (d : Dropped). d.row < i) (λ (d : Dropped). d.row < suc i) (λ d l. omega (arith, l)) f.drops is.below.1) (omega (arith, place_is)),
    );
    rows = others_are ∙ rows_left (i ∷ gone) 0 all ∙ sym rows.goes ∙ ap (λ gs. left_up_to gs (suc i) all) (sym gone_now);
    places = places_are ∙ sym numbers.goes ∙ ap (λ gs. left_up_to gs (suc i) range) (sym gone_now);
    next = is.next ∙ sym rows.goes_counted ∙ ap (λ gs. length (left gs 0 (take (suc i) all))) (sym gone_now);
    shown = holds_push all [] f.drops new is.shown proved named;
  })
    where
      new : Dropped
      new = record { row = t.place; weights = at_places t.others.places w }

      lower : (d : Dropped) → d.row < i → d.row < new.row
      lower d l = omega (arith, l, place_is)

      gone_now : places_of (f.drops ++ new ∷ []) ≡ gone ++ i ∷ []
      gone_now = map-append (λ (d : Dropped). d.row) f.drops (new ∷ []) ∙ ap (λ p. gone ++ p ∷ []) place_is

      by_rest : Proves w (left (i ∷ gone) 0 all) (row_at all i)
      by_rest = subst (λ (xs : List Row). Proves w xs (row_at all i)) (others_are ∙ rows_left (i ∷ gone) 0 all)
          (subst (Proves w t.others.rows) hand_is proves)

      weights_are : at_places (left (i ∷ gone) 0 range) w ≡ new.weights
      weights_are = ap (λ (ps : List ℕ). at_places ps w) (sym places_are)

      proved : Proves new.weights all (row_at all new.row)
      proved = subst (λ v. Proves v all (row_at all new.row)) weights_are
          (subst (λ p. Proves (at_places (left (i ∷ gone) 0 range) w) all (row_at all p)) (sym place_is)
          (proves_by_places all (i ∷ gone) w (row_at all i) by_rest))

      named : NamesNone (new.row ∷ gone ++ []) new.weights
      named = subst (λ (gs : List ℕ). NamesNone (new.row ∷ gs) new.weights) (sym (append-nil gone))
          (subst (λ p. NamesNone (p ∷ gone) new.weights) (sym place_is)
          (subst (NamesNone (i ∷ gone)) weights_are (names_none all (i ∷ gone) w by_rest.places)))

-- ---- the clean leaves no more rows
none_without : (i : ℕ) (rows : List Row) → without_places [] i rows ≡ rows
none_without i [] = refl
none_without i (r ∷ rows) = ap (λ (rest : List Row). r ∷ rest) (none_without (suc i) rows)

pub cleaned_fewer : (n : ℕ) (rows : List Row) → length (cleaned n rows) ≤ length rows
cleaned_fewer n rows = subst (λ (new : List Row). length new ≤ length rows) (none_without 0 (cleaned n rows)) (thinned_fewer n rows [])

-- ---- the beginning and the end of the filter
pub started : (all : List Row) → IsFiltered all 0 (start_of all)
started all = record {
  below = (search rules, All-nil (λ (d : Dropped). d.row < 0));
  rows = refl;
  places = refl;
  next = refl;
  shown = tt;
}

-- the drops so far and those of the others are all
pub filtered_turn : (group : Group) (most : ℕ) (all : List Row) (i count : ℕ) (f : Filtering) (turn : Result Filtering Halt) → IsFiltered all i f
    → i < count → count ≤ length all → turn ≡ asked_about group most (taken f)
    → filtered group all most f.drops i (count - i) ≡ and_then turn (λ g. filtered group all most g.drops (i + 1) (count - (i + 1)))
filtered_turn group most all i count f turn is l c turn_is =
    ap (λ k. filtered group all most f.drops i k) (let one : count - i ≡ suc (count - (i + 1)) = omega (arith, l) in one)
    ∙ ap (λ (r : Result (List Dropped) Halt). and_then r (λ drops. filtered group all most drops (suc i) (count - (i + 1))))
    (told all i f is (omega (arith, l, c)) group most ∙ ap (λ (r : Result Filtering Halt). and_then r (λ g. Ok g.drops)) (sym turn_is))
    ∙ grouped turn
  where
    grouped : (r : Result Filtering Halt) → and_then (and_then r (λ g. Ok g.drops)) (λ drops. filtered group all most drops (suc i) (count - (i + 1)))
        ≡ and_then r (λ g. filtered group all most g.drops (i + 1) (count - (i + 1)))
    grouped (Err e) = refl
    grouped (Ok g) = ap (λ j. filtered group all most g.drops j (count - (i + 1))) (sym (add-one i))

-- where a turn is refused, so is the filter
pub filtered_stops : (group : Group) (most : ℕ) (all : List Row) (i count : ℕ) (f : Filtering) (wanting fault : Halt) (due : Result (List Dropped) Halt) →
    IsFiltered all i f → i < count → count ≤ length all → due ≡ filtered group all most f.drops i (count - i) →
    (fault ≡ wanting) ⊎ (asked_about group most (taken f) ≡ Err fault) → (fault ≡ wanting) ⊎ (due ≡ Err fault)
filtered_stops group most all i count f wanting fault due is l c so_far (inl free) = inl free
filtered_stops group most all i count f wanting fault due is l c so_far (inr stops) =
    inr (so_far ∙ filtered_turn group most all i count f (Err fault) is l c (sym stops))

-- the rows in front of the next one are those that stay of the first ones
pub front_stays : (kept context : List Row) (f : Filtering) → IsFiltered (kept ++ context) (length kept) f
    → take f.next f.rows ≡ without_places (places_of f.drops) 0 kept
front_stays kept context f is =
    ap₂ (λ (xs : List Row) k. take k xs) is.rows is.next
    ∙ take-append_seam (left (places_of f.drops) 0 (take (length kept) (kept ++ context))) (drop (length kept) (kept ++ context))
    ∙ ap (left (places_of f.drops) 0) (take-append_seam kept context) ∙ sym (rows_left (places_of f.drops) 0 kept)

pub thinning_is : (n : ℕ) (rows context : List Row) (f : Filtering) → IsFiltered (cleaned n rows ++ context) (length (cleaned n rows)) f
    → IsThinning n rows context (record { rows = take f.next f.rows; drops = f.drops })
thinning_is n rows context f is = record {
  rows_are = front;
  holds = holds;
  points = λ x up met. subst (λ (new : List Row). MeetsAll new x ↔ MeetsAll rows x) (sym front) (thinned_met n rows context f.drops x up holds met);
}
  where
    front : take f.next f.rows ≡ thinned n rows f.drops
    front = front_stays (cleaned n rows) context f is

    holds : ThinningHolds n rows context f.drops
    holds = record { ascending = is.below.0; placed = is.below.1; shown = is.shown }

-- the cleaned rows and the context can be filtered
pub can_start : (n : ℕ) (rows context : List Row) → All (λ (r : Row). length r.c ≡ n) rows → All (λ (r : Row). length r.c ≡ n) context →
    length rows + length context ≤ 4096 → n ≤ 128 → CanStart n (cleaned n rows ++ context)
can_start n rows context columns context_columns few short = record {
  few = (let fewer = cleaned_fewer n rows in let long = length-append (cleaned n rows) context in omega (arith, few, fewer, long));
  columns = All-append (λ (r : Row). length r.c ≡ n) (cleaned n rows) context (cleaned_columns n rows columns) context_columns;
  short = short;
}

pub room_for : (n : ℕ) (rows context : List Row) (work : Work) → HasRoom n (length rows + length context) work →
    HasRoom n (length (cleaned n rows ++ context)) work
room_for n rows context work room = record {
  lines = room.lines;
  rows = (let fewer = cleaned_fewer n rows in let long = length-append (cleaned n rows) context in let some = room.rows in omega (arith, some, fewer, long));
}

-- what was cleaned, filtered and cut is the thinning of the list
pub thinned_answer : (n : ℕ) (rows context : List Row) (most : ℕ) (group : Group) (start : Filtering × ℕ) (f : Filtering) →
    told_as (clean_halt group) (and_then {B = Filtering × ℕ} (clean_in n rows) (λ kept. Ok (start_of (kept ++ context), length kept))) ≡ Ok start →
    filtered group start.0.rows most [] 0 start.1 ≡ Ok f.drops → IsFiltered start.0.rows start.1 f →
    thinned_of n rows context most group ≡ Ok (record { rows = take f.next f.rows; drops = f.drops })
thinned_answer n rows context most group start f cleans filters is = by (clean_in n rows) refl cleans
  where
    by : (r : Result (List Row) CleanFault) → clean_in n rows ≡ r
        → told_as (clean_halt group) (and_then {B = Filtering × ℕ} r (λ kept. Ok (start_of (kept ++ context), length kept))) ≡ Ok start
        → thinned_of n rows context most group ≡ Ok (record { rows = take f.next f.rows; drops = f.drops })
    by (Err e) is_err h = absurd (cc)
    by (Ok kept) is_ok h =
        let same : start ≡ (start_of (kept ++ context), length kept) = sym (ok_same (start_of (kept ++ context), length kept) start h) in
        let due : filtered group (kept ++ context) most [] 0 (length kept) ≡ Ok f.drops =
        subst (λ (s : Filtering × ℕ). filtered group s.0.rows most [] 0 s.1 ≡ Ok f.drops) same filters in
        let state : IsFiltered (kept ++ context) (length kept) f = subst (λ (s : Filtering × ℕ). IsFiltered s.0.rows s.1 f) same is in
        rw (is_ok, due) (ap (λ (rs : List Row). Ok (record { rows = rs; drops = f.drops })) (sym (front_stays kept context f state)))
