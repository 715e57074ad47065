-- The columns of the outputs that go, each where it stands when its turn comes, are the places of their names.
use Rattle.std.proofs.Common.{◌≡◌, refl, sym, ap, ap₂, ◌∙◌, subst, ℕ, suc, ◌+◌, ◌<◌, ◌≤◌, Bool, true, false, cond, nat_eq, ◌||◌, All, arith}
use Rattle.std.proofs.Common.{List, [], ◌∷◌, ◌++◌, append_assoc, length, length-append, filter}
use Rattle.std.proofs.lemmas.Cmp.{nat_list_eq_equiv}
use Rattle.std.proofs.lemmas.List.Elements.{All-nil, All-cons}
use Rattle.std.proofs.lemmas.Map.Keys.{IsDistinct-cons}
use Rattle.std.specs.List.{AllByRecursion, list_any, IsDistinct}
use Rattle.pa_math.proofs.Unions.{distinct-nil}
use Rattle.std.specs.Str.{bytes_eq}
use Rattle.pa_ring.specs.Sums.{without}
use Rattle.pa_meaning.specs.Contracts.{Name, Contract, ports}
use Rattle.pa_meaning.specs.Composition.{is_among}
use Rattle.pa_witness.specs.Projection.{AreThere, place_of}
use Rattle.pa_witness.proofs.NamedColumns.{places_for, place_below, one_less}
use Rattle.pa_witness.proofs.NamesLeft.{new_there, still_distinct, without_place}
use Rattle.pa_elim.specs.Projecting.{moved_up, place_after, in_turn_after, in_turn}
use Rattle.pa_elim.specs.Meant.{AreColumns}
use Rattle.pa_elim.specs.Seen.{AreInTurn}
use Rattle.pa_elim.proofs.InTurn.{place_after-last}
use Rattle.pa_compose.specs.Hiding.{columns_from, hidden_columns, hidden_names}

-- a name that is new stands behind those before it
place_of_new : (y : Name) (xs ys : List Name) → list_any (bytes_eq y) xs ≡ false → place_of y (xs ++ y ∷ ys) ≡ length xs
place_of_new y [] ys h = ap (λ b. cond b 0 (suc (place_of y ys))) (nat_list_eq_equiv.refl y)
place_of_new y (x ∷ xs) ys h = by (bytes_eq y x) h (place_of_new y xs ys)
  where
    by : (b : Bool) → (b || list_any (bytes_eq y) xs) ≡ false → (list_any (bytes_eq y) xs ≡ false → place_of y (xs ++ y ∷ ys) ≡ length xs)
        → cond b 0 (suc (place_of y (xs ++ y ∷ ys))) ≡ suc (length xs)
    by true h rest = absurd (cc)
    by false h rest = ap suc (rest h)

-- a column behind the one that goes moves up by one
moved_behind : (g m : ℕ) → moved_up g (g + suc m) ≡ g + m
moved_behind g m = grind (arith)

-- Each column from i on moves up to stand behind the names that are left before it.
abbrev AreBehind : List ℕ → ℕ → List Name → Type 0
AreBehind gone i xs = (m : ℕ) → place_after gone (i + m) ≡ length xs + m

behind_here : (gone : List ℕ) (i : ℕ) (xs : List Name) → AreBehind gone i xs → place_after gone i ≡ length xs
behind_here gone i xs moved =
    let first : i ≡ i + 0 = omega arith in
    let last : length xs + 0 ≡ length xs = omega arith in ap (place_after gone) first ∙ moved 0 ∙ last

-- the next one behind a name that stays
behind_kept : (gone : List ℕ) (i : ℕ) (xs : List Name) (y : Name) → AreBehind gone i xs → AreBehind gone (suc i) (xs ++ y ∷ [])
behind_kept gone i xs y moved m =
    let one : suc i + m ≡ i + suc m = omega arith in
    let more = length-append xs (y ∷ []) in
    let last : length xs + suc m ≡ length (xs ++ y ∷ []) + m = omega (arith, more) in ap (place_after gone) one ∙ moved (suc m) ∙ last

-- the next one once the column here is out
behind_gone : (gone : List ℕ) (i : ℕ) (xs : List Name) → AreBehind gone i xs → AreBehind (gone ++ length xs ∷ []) (suc i) xs
behind_gone gone i xs moved m =
    let one : suc i + m ≡ i + suc m = omega arith in
    place_after-last gone (length xs) (suc i + m)
    ∙ ap (moved_up (length xs)) (ap (place_after gone) one ∙ moved (suc m)) ∙ moved_behind (length xs) m

module _ (names : List Name) where
  -- one output more: it goes, or it stays
  turns_step : (gone : List ℕ) (i : ℕ) (xs ys : List Name) (y : Name) → IsDistinct bytes_eq (xs ++ y ∷ ys) → place_after gone i ≡ length xs
      → in_turn_after gone (columns_from names (suc i) ys) ≡ places_for ((xs ++ y ∷ []) ++ ys) (filter (is_among names) ys)
      → in_turn_after (gone ++ length xs ∷ []) (columns_from names (suc i) ys) ≡ places_for (xs ++ ys) (filter (is_among names) ys)
      → in_turn_after gone (columns_from names i (y ∷ ys)) ≡ places_for (xs ++ y ∷ ys) (filter (is_among names) (y ∷ ys))
  turns_step gone i xs ys y d here kept went = by (is_among names y)
    where
      new : list_any (bytes_eq y) xs ≡ false
      new = new_there xs ys y d

      both : (place : ℕ) → place ≡ length xs → in_turn_after (gone ++ place ∷ []) (columns_from names (suc i) ys)
          ≡ places_for (without (place_of y (xs ++ y ∷ ys)) (xs ++ y ∷ ys)) (filter (is_among names) ys)
      both place is = ap (λ p. in_turn_after (gone ++ p ∷ []) (columns_from names (suc i) ys)) is ∙ went
          ∙ ap (λ ns. places_for ns (filter (is_among names) ys)) (sym (without_place y xs ys new))

      by : (b : Bool) → in_turn_after gone (cond b (i ∷ columns_from names (suc i) ys) (columns_from names (suc i) ys))
          ≡ places_for (xs ++ y ∷ ys) (cond b (y ∷ filter (is_among names) ys) (filter (is_among names) ys))
      by true = ap₂ ◌∷◌ (here ∙ sym (place_of_new y xs ys new)) (both (place_after gone i) here)
      by false = kept ∙ ap (λ ns. places_for ns (filter (is_among names) ys)) (append_assoc xs (y ∷ []) ys)

  -- Those of the outputs ys go, of which the first has the column i; xs are left before them.
  turns_from : (gone : List ℕ) (i : ℕ) (xs ys : List Name) → IsDistinct bytes_eq (xs ++ ys) → AreBehind gone i xs
      → in_turn_after gone (columns_from names i ys) ≡ places_for (xs ++ ys) (filter (is_among names) ys)
  turns_from gone i xs [] d moved = refl
  turns_from gone i xs (y ∷ ys) d moved =
      turns_step gone i xs ys y d (behind_here gone i xs moved)
      (turns_from gone (suc i) (xs ++ y ∷ []) ys (subst (IsDistinct bytes_eq) (sym (append_assoc xs (y ∷ []) ys)) d) (behind_kept gone i xs y moved))
      (turns_from (gone ++ length xs ∷ []) (suc i) xs ys (still_distinct xs ys y d) (behind_gone gone i xs moved))

  -- those of the names ys go, where the names xs stand before them
  pub turns_behind : (xs ys : List Name) → IsDistinct bytes_eq (xs ++ ys)
      → in_turn (columns_from names (length xs) ys) ≡ places_for (xs ++ ys) (filter (is_among names) ys)
  turns_behind xs ys d = turns_from [] (length xs) xs ys d (λ m. refl)

  pub columns_in_turn : (c : Contract) → IsDistinct bytes_eq (ports c) → in_turn (hidden_columns c names) ≡ places_for (ports c) (hidden_names c names)
  columns_in_turn c d = turns_behind c.inputs c.outputs d

-- names that are there stand at columns that are left when their turns come
pub there_in_turn : (names gone : List Name) → AreThere names gone → AreInTurn (length names) (places_for names gone)
there_in_turn names [] there = tt
there_in_turn names (g ∷ gone) there = (
  place_below g names there.0,
  subst (λ n. AreInTurn n (places_for (without (place_of g names) names) gone)) (one_less g names there.0)
      (there_in_turn (without (place_of g names) names) gone there.1),
)

pub length-places_for : (names gone : List Name) → length (places_for names gone) ≡ length gone
length-places_for names [] = refl
length-places_for names (g ∷ gone) = ap suc (length-places_for (without (place_of g names) names) gone)

-- ---- the columns that go are different columns of the contract's, one for each name
module _ (names : List Name) where
  pub as_many : (i : ℕ) (ys : List Name) → length (columns_from names i ys) ≡ length (filter (is_among names) ys)
  as_many i [] = refl
  as_many i (y ∷ ys) = by (is_among names y) (as_many (suc i) ys)
    where
      by : (b : Bool) → length (columns_from names (suc i) ys) ≡ length (filter (is_among names) ys)
          → length (cond b (i ∷ columns_from names (suc i) ys) (columns_from names (suc i) ys))
          ≡ length (cond b (y ∷ filter (is_among names) ys) (filter (is_among names) ys))
      by true rest = ap suc rest
      by false rest = rest

  pub length-hidden : (c : Contract) → length (hidden_columns c names) ≡ length (hidden_names c names)
  length-hidden c = as_many (length c.inputs) c.outputs

  columns_apart : (g i : ℕ) (ys : List Name) → g < i → AllByRecursion (λ k. nat_eq g k ≡ false) (columns_from names i ys)
  columns_apart g i [] low = tt
  columns_apart g i (y ∷ ys) low = by (is_among names y) (columns_apart g (suc i) ys (omega (arith, low)))
    where
      by : (b : Bool) → AllByRecursion (λ k. nat_eq g k ≡ false) (columns_from names (suc i) ys)
          → AllByRecursion (λ k. nat_eq g k ≡ false) (cond b (i ∷ columns_from names (suc i) ys) (columns_from names (suc i) ys))
      by true rest = ((let apart : nat_eq g i ≡ false = grind (arith) in apart), rest)
      by false rest = rest

  columns_distinct : (i : ℕ) (ys : List Name) → IsDistinct nat_eq (columns_from names i ys)
  columns_distinct i [] = distinct-nil nat_eq
  columns_distinct i (y ∷ ys) = by (is_among names y) (columns_distinct (suc i) ys)
    where
      by : (b : Bool) → IsDistinct nat_eq (columns_from names (suc i) ys)
          → IsDistinct nat_eq (cond b (i ∷ columns_from names (suc i) ys) (columns_from names (suc i) ys))
      by true rest = IsDistinct-cons nat_eq i (columns_from names (suc i) ys) (columns_apart i (suc i) ys (omega (arith))) rest
      by false rest = rest

  columns_below : (n i : ℕ) (ys : List Name) → i + length ys ≤ n → All (λ k. k < n) (columns_from names i ys)
  columns_below n i [] low = All-nil (λ k. k < n)
  columns_below n i (y ∷ ys) low = by (is_among names y) (columns_below n (suc i) ys (omega (arith, low)))
    where
      by : (b : Bool) → All (λ k. k < n) (columns_from names (suc i) ys)
          → All (λ k. k < n) (cond b (i ∷ columns_from names (suc i) ys) (columns_from names (suc i) ys))
      by true rest = All-cons (λ k. k < n) i (columns_from names (suc i) ys) (omega (arith, low)) rest
      by false rest = rest

  pub columns_behind : (xs ys : List Name) → AreColumns (length (xs ++ ys)) (columns_from names (length xs) ys)
  columns_behind xs ys = record {
    distinct = columns_distinct (length xs) ys;
    placed = columns_below (length (xs ++ ys)) (length xs) ys (let all = length-append xs ys in omega (arith, all));
  }

  pub hidden_are_columns : (c : Contract) → AreColumns (length (ports c)) (hidden_columns c names)
  hidden_are_columns c = columns_behind c.inputs c.outputs
