-- What the words of a test say of the point, and of the behaviours that have its fractions.
use Rattle.std.proofs.Common.{◌≡◌, ◌≤◌, ◌<◌, ◌+◌, refl, sym, ap, ◌∙◌, subst, ℕ, suc, cond, drop, get_or, Option, Some, None, Bool, true, false, not, ◌&&◌}
use Rattle.std.proofs.Common.{◌||◌, ◌↔◌, IsTrue, List, [], ◌∷◌, ◌++◌, length, map, Decides, true≢false, All, Ok, Err, Result, int_le, arith}
use Rattle.std.specs.Prelude.{is_err, position, IfOk}
use Rattle.std.specs.Option.{option_map}
use Rattle.std.specs.List.{list_all, AllZip, IsDistinct}
use Rattle.std.specs.Str.{bytes_eq}
use Rattle.std.proofs.lemmas.List.{drop_all}
use Rattle.std.proofs.lemmas.List.Elements.{All-nil, All-cons, All-head, All-tail, All-weaker}
use lib.IntN.{ℤ, pos, ◌*ℤ◌}
use lib.Signed.{◌≤ℤ◌, ◌<ℤ◌}
use Rattle.pa_ring.specs.Sums.{dot}
use Rattle.pa_math.specs.Answers.{IsAnswer, given}
use Rattle.pa_frac.specs.declared.wide.Wide.{Wide}
use Rattle.pa_meaning.specs.Rows.{Row, Point, Meets, MeetsAll}
use Rattle.pa_meaning.specs.Contracts.{Name, Contract, ports, Behaviour, behaviour_of, point_over, Extends, Keeps}
use Rattle.pa_meaning.proofs.Extensions.{unmoved}
use Rattle.pa_meaning.proofs.Moves.{point_is}
use Rattle.pa_meaning.proofs.Places.{position-cons, position_left, position_right}
use Rattle.pa_row.specs.Sums.{meets_in}
use Rattle.pa_row.proofs.Dots.{is_at_most, test_at_most}
use Rattle.pa_contract.specs.Testing.{Tested, IsTested, SaysOfBehaviours, is_met, passes_at, sum_place, words_of, rows_tested, tested}
use Rattle.pa_contract.specs.declared.fault.TestFault.TheVariants.{Wide as TooWide}
use Rattle.pa_contract.specs.WellFormed.{IsWellFormed}
use Rattle.pa_contract.proofs.Fronts.{all_short}
use Rattle.pa_contract.proofs.Steps.{drop-read}

-- ---- one row
decided : (r : Row) (x : Point) → Decides (is_met x r) (Meets r x)
decided r x = (λ t. record { meets = is_at_most (dot r.c x.p) (r.b *ℤ x.q) t }, λ h. test_at_most (dot r.c x.p) (r.b *ℤ x.q) h.meets)

same_word : {P : Type 0} (a b : Bool) → Decides a P → Decides b P → a ≡ b
same_word true b h k = sym (k.1 (h.0 refl))
same_word false true h k = h.1 (k.0 refl)
same_word false false h k = refl

-- a word that says whether the point meets the row
pub word_is : (r : Row) (x : Point) (met : Bool) → (IsTrue met ↔ Meets r x) → met ≡ is_met x r
word_is r x met h = same_word met (is_met x r) h (decided r x)

-- a word comes where no sum passes
pub narrow_word : (r : Row) (x : Point) (met : Bool) → Ok met ≡ meets_in r x → passes_at x r ≡ false
narrow_word r x met h = sym (ap is_err h)

pub wide_word : (r : Row) (x : Point) (wide : Wide) → Err wide ≡ meets_in r x → passes_at x r ≡ true
wide_word r x wide h = sym (ap is_err h)

-- ---- lists
both : (a b : Bool) → a ≡ true → b ≡ true → (a && b) ≡ true
both true b h k = k
both false b h k = h

left_true : (a b : Bool) → (a && b) ≡ true → a ≡ true
left_true true b h = refl
left_true false b h = absurd (cc)

right_true : (a b : Bool) → (a && b) ≡ true → b ≡ true
right_true true b h = h
right_true false b h = absurd (cc)

-- all words are true exactly where the point meets the list
pub all_words : (rows : List Row) (words : List Bool) (x : Point) → AllZip (λ r word. Decides word (Meets r x)) rows words → Decides
    (list_all (λ b. b) words) (MeetsAll rows x)
all_words [] [] x h = (λ t. All-nil (λ r. Meets r x), λ m. refl)
all_words [] (b ∷ words) x h = absurd h
all_words (r ∷ rows) [] x h = absurd h
all_words (r ∷ rows) (b ∷ words) x h =
    let rest = all_words rows words x h.1 in (
      λ t. All-cons (λ r. Meets r x) r rows (h.0.0 (left_true b (list_all (λ b. b) words) t)) (rest.0 (right_true b (list_all (λ b. b) words) t)),
      λ m. both b (list_all (λ b. b) words) (h.0.1 (All-head (λ r. Meets r x) r rows m)) (rest.1 (All-tail (λ r. Meets r x) r rows m)),
    )

pub implication : {P Q : Type 0} (a g : Bool) → Decides a P → Decides g Q → Decides (not a || g) (P → Q)
implication true g h k = (λ e p. k.0 e, λ f. k.1 (f (h.0 refl)))
implication false g h k = (λ e p. absurd (true≢false (sym (h.1 p))), λ f. refl)

words_decided : (rows : List Row) (x : Point) → AllZip (λ r word. Decides word (Meets r x)) rows (map (is_met x) rows)
words_decided [] x = tt
words_decided (r ∷ rows) x = (decided r x, words_decided rows x)

-- ---- contracts
-- the words of a contract are those that are meant
pub words_are_tested : (c : Contract) (x : Point) → IsTested c x (words_of c.assumptions c.guarantees x)
words_are_tested c x =
    let assumptions = words_decided c.assumptions x in
    let guarantees = words_decided c.guarantees x in
    record {
      assumptions = assumptions;
      guarantees = guarantees;
      keeps = implication (list_all (λ b. b) (map (is_met x) c.assumptions)) (list_all (λ b. b) (map (is_met x) c.guarantees))
          (all_words c.assumptions (map (is_met x) c.assumptions) x assumptions) (all_words c.guarantees (map (is_met x) c.guarantees) x guarantees);
    }

extends_back : (names : List Name) (v w : Behaviour) → Extends names v w → Extends names w v
extends_back names v w h = All-weaker (λ n. w.value n *ℤ v.den ≡ v.value n *ℤ w.den) (λ n. v.value n *ℤ w.den ≡ w.value n *ℤ v.den) (λ n e. sym e) names h

-- A behaviour with the point's fractions at the ports meets a list over the ports exactly where the point does, and so
-- the word of the point is the word of the behaviour.
pub words_say : (c : Contract) (x : Point) → IsWellFormed c → length x.p ≡ length (ports c) → SaysOfBehaviours c x (words_of c.assumptions c.guarantees x)
words_say c x w e up v ext = (λ t a. there c.guarantees (keeps.0 t (assumed_here a)), λ k. keeps.1 (λ a. here c.guarantees (k (assumed_there a))))
  where
    is : point_over (ports c) (behaviour_of (ports c) x up) ≡ x
    is = point_is (ports c) x up w.distinct e

    keeps : Decides (words_of c.assumptions c.guarantees x).keeps (MeetsAll c.assumptions x → MeetsAll c.guarantees x)
    keeps = (words_are_tested c x).keeps

    there : (rows : List Row) → MeetsAll rows x → MeetsAll rows (point_over (ports c) v)
    there rows h = unmoved (ports c) rows v (behaviour_of (ports c) x up) (extends_back (ports c) (behaviour_of (ports c) x up) v ext)
        (subst (MeetsAll rows) (sym is) h)

    here : (rows : List Row) → MeetsAll rows (point_over (ports c) v) → MeetsAll rows x
    here rows h = subst (MeetsAll rows) is (unmoved (ports c) rows (behaviour_of (ports c) x up) v ext h)

    assumed_here : MeetsAll c.assumptions (point_over c.inputs v) → MeetsAll c.assumptions x
    assumed_here a = here c.assumptions ((all_short c.inputs c.outputs v c.assumptions w.assumptions.columns_fit).1 a)

    assumed_there : MeetsAll c.assumptions x → MeetsAll c.assumptions (point_over c.inputs v)
    assumed_there a = (all_short c.inputs c.outputs v c.assumptions w.assumptions.columns_fit).0 (there c.assumptions a)

-- what holds of the answer that is due holds of the answer
pub answer_says : {T E : Type 0} (P : T → Type 0) (memory : E) (due result : Result T E) → IsAnswer memory due result → ((t : T) → due ≡ Ok t → P t)
    → IfOk result P
answer_says P memory due (Ok t) h k = k t h
answer_says P memory due (Err e) h k = tt

words_due : (o : Option ℕ) (words t : Tested) → given (Ok words) o (λ row. Err (TooWide (sum_place row))) ≡ Ok t → words ≡ t
words_due None words t h = cc
words_due (Some row) words t h = absurd (cc)

-- the answer that is due is true of the contract at the point, and of the behaviours with its fractions
pub tested_is_tested : (c : Contract) (x : Point) (t : Tested) → tested c x ≡ Ok t → IsTested c x t
tested_is_tested c x t h =
    subst (IsTested c x) (words_due (position (passes_at x) (c.assumptions ++ c.guarantees)) (words_of c.assumptions c.guarantees x) t h) (words_are_tested c x)

pub tested_says : (c : Contract) (x : Point) (t : Tested) → IsWellFormed c → length x.p ≡ length (ports c) → tested c x ≡ Ok t → SaysOfBehaviours c x t
tested_says c x t w e h =
    subst (SaysOfBehaviours c x) (words_due (position (passes_at x) (c.assumptions ++ c.guarantees)) (words_of c.assumptions c.guarantees x) t h)
    (words_say c x w e)

-- ---- the first row that passes
module _ {A : Type 0} (p : A → Bool) where
  further : (i : ℕ) (o : Option ℕ) → option_map (λ k. i + k) (option_map (λ k. suc k) o) ≡ option_map (λ k. i + 1 + k) o
  further i None = refl
  further i (Some k) = ap (λ n. Some n) (omega arith)

  -- it is not the row that is looked at
  pub first_later : (xs : List A) (i : ℕ) (x : A) (all : Option ℕ) → i < length xs → x ≡ get_or xs i x → p x ≡ false
      → option_map (λ k. i + k) (position p (drop i xs)) ≡ all → option_map (λ k. i + 1 + k) (position p (drop (i + 1) xs)) ≡ all
  first_later xs i x all within is narrow so_far =
      sym (ap (λ l. option_map (λ k. i + k) (position p l)) (drop-read xs i x within is)
      ∙ ap (option_map (λ k. i + k)) (position-cons p x (drop (i + 1) xs) ∙ ap
      (λ b. cond b (Some 0) (option_map (λ k. suc k) (position p (drop (i + 1) xs)))) narrow)
      ∙ further i (position p (drop (i + 1) xs)))
      ∙ so_far

  -- it is the row that is looked at
  pub first_here : (xs : List A) (i : ℕ) (x : A) (all : Option ℕ) → i < length xs → x ≡ get_or xs i x → p x ≡ true
      → option_map (λ k. i + k) (position p (drop i xs)) ≡ all → all ≡ Some i
  first_here xs i x all within is wide so_far =
      sym so_far
      ∙ ap (λ l. option_map (λ k. i + k) (position p l)) (drop-read xs i x within is)
      ∙ ap (option_map (λ k. i + k)) (position-cons p x (drop (i + 1) xs) ∙ ap
      (λ b. cond b (Some 0) (option_map (λ k. suc k) (position p (drop (i + 1) xs)))) wide)
      ∙ ap (λ n. Some n) (omega arith)

  -- there is none
  pub first_nowhere : (xs : List A) (i : ℕ) (all : Option ℕ) → length xs ≤ i → option_map (λ k. i + k) (position p (drop i xs)) ≡ all → all ≡ None
  first_nowhere xs i all done so_far = sym so_far ∙ ap (λ l. option_map (λ k. i + k) (position p l)) (drop_all i xs done)

-- ---- both lists
-- the words of both lists are due where no row of either passes
pub both_narrow : (assumptions guarantees : List Row) (x : Point) → position (passes_at x) assumptions ≡ None → position (passes_at x) guarantees ≡ None
    → rows_tested assumptions guarantees x ≡ Ok (words_of assumptions guarantees x)
both_narrow assumptions guarantees x h k =
    ap (λ o. given (Ok (words_of assumptions guarantees x)) o (λ row. Err (TooWide (sum_place row))))
    (position_right (passes_at x) assumptions guarantees h ∙ ap (option_map (λ i. length assumptions + i)) k)

-- a row that passes is due with its number
pub assumption_wide : (assumptions guarantees : List Row) (x : Point) (row : ℕ) → position (passes_at x) assumptions ≡ Some row
    → rows_tested assumptions guarantees x ≡ Err (TooWide (sum_place row))
assumption_wide assumptions guarantees x row h =
    ap (λ o. given (Ok (words_of assumptions guarantees x)) o (λ row. Err (TooWide (sum_place row)))) (position_left (passes_at x) assumptions guarantees row h)

pub guarantee_wide : (assumptions guarantees : List Row) (x : Point) (row : ℕ) → position (passes_at x) assumptions ≡ None → position
    (passes_at x) guarantees ≡ Some row
    → rows_tested assumptions guarantees x ≡ Err (TooWide (sum_place (length assumptions + row)))
guarantee_wide assumptions guarantees x row h k =
    ap (λ o. given (Ok (words_of assumptions guarantees x)) o (λ row. Err (TooWide (sum_place row))))
    (position_right (passes_at x) assumptions guarantees h ∙ ap (option_map (λ i. length assumptions + i)) k)
