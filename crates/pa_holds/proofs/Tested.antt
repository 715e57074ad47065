-- Tests: what holds as printed is true, and what a test of the contract at the point's own ports tells holds as it is printed.
use Rattle.std.proofs.Common.{◌≡◌, refl, sym, ap, ◌∙◌, subst, ℕ, Bool, not, cond, List, [], ◌∷◌, ◌++◌, length, Decides, All, Option, Some, None}
use Rattle.std.proofs.Common.{option_map, find, arith}
use Rattle.std.proofs.Common.{◌<◌, Ok, Err, length-append}
use Rattle.std.proofs.lemmas.List.Elements.{All-head, All-tail}
use Rattle.std.proofs.lemmas.List.Quantifiers.{position-Some}
use Rattle.std.specs.Prelude.{position}
use Rattle.std.specs.Option.{is_none, is_some}
use Rattle.std.specs.List.{list_all, AllZip}
use Rattle.std.specs.Str.{bytes_eq}
use lib.IntN.{pos}
use lib.Signed.{◌<ℤ◌}
use Rattle.pa_meaning.specs.Rows.{Row, Point, Meets}
use Rattle.pa_meaning.specs.Contracts.{Name, Contract, ports, Behaviour, behaviour_of, point_over}
use Rattle.pa_meaning.specs.Composition.{is_among}
use Rattle.pa_witness.specs.Steps.{Version}
use Rattle.pa_contract.specs.WellFormed.{IsWellFormed}
use Rattle.pa_contract.specs.Merge.{row_count}
use Rattle.pa_contract.specs.Testing.{Tested, IsTested, tested, words_of, keeps_word, passes_at, sum_place}
use Rattle.pa_contract.specs.declared.fault.TestFault.TheVariants.{Wide}
use Rattle.pa_contract.proofs.Words.{all_words, implication, tested_is_tested}
use Rattle.pa_contract.proofs.Fronts.{meets_front}
use Rattle.pa_contract.proofs.Steps.{is_some-position}
use Rattle.pa_row.specs.declared.place.Place.{Place}
use Rattle.pa_cert.specs.declared.refusal.NameRefusal.TheVariants.{UnknownPort}
use Rattle.pa_cert.specs.declared.answer.Answer.TheVariants.{TestedAs, TooWide}
use Rattle.pa_cert.specs.Tables.{Limits}
use Rattle.pa_holds.specs.Refusals.{first_missing}
use Rattle.pa_math.specs.Answers.{given}
use Rattle.pa_holds.specs.Limits.{PlaceFits}
use Rattle.pa_holds.specs.Questions.{Testing}
use Rattle.pa_holds.specs.Answers.{due, IsTestOf, HoldsAsTested, HoldsAsPrinted}

-- A test that holds as printed is true.
pub tested_is_true : (c : Contract) (v : Behaviour) (t : Tested) → HoldsAsTested c v t → IsTestOf c v t
tested_is_true c v t h =
    let keeps = implication (list_all (λ b. b) t.assumptions) (list_all (λ b. b) t.guarantees)
    (all_words c.assumptions t.assumptions (point_over c.inputs v) h.assumptions) (all_words c.guarantees t.guarantees (point_over (ports c) v) h.guarantees) in
    record {
      assumptions = h.assumptions;
      guarantees = h.guarantees;
      keeps = (λ e. keeps.0 (sym h.keeps ∙ e), λ k. h.keeps ∙ keeps.1 k);
    }

-- ---- a test at the ports
-- words of rows over the inputs, read at all ports, are their words at the inputs
inputs_words : (inputs outputs : List Name) (v : Behaviour) (rows : List Row) (words : List Bool) → All (λ r. length r.c ≡ length inputs) rows
    → AllZip (λ r word. Decides word (Meets r (point_over (inputs ++ outputs) v))) rows words
    → AllZip (λ r word. Decides word (Meets r (point_over inputs v))) rows words
inputs_words inputs outputs v [] [] fit h = tt
inputs_words inputs outputs v [] (w ∷ words) fit h = absurd h
inputs_words inputs outputs v (r ∷ rows) [] fit h = absurd h
inputs_words inputs outputs v (r ∷ rows) (w ∷ words) fit h =
    let here = All-head (λ r. length r.c ≡ length inputs) r rows fit in
    let same = meets_front inputs outputs v r (omega arith) in (
      (λ t. same.0 (h.0.0 t), λ m. h.0.1 (same.1 m)),
      inputs_words inputs outputs v rows words (All-tail (λ r. length r.c ≡ length inputs) r rows fit) h.1,
    )

-- what is told of a behaviour's point at the ports is told of the behaviour
told_of : (c : Contract) (v : Behaviour) (t : Tested) → IsWellFormed c → IsTested c (point_over (ports c) v) t
    → t.keeps ≡ keeps_word t.assumptions t.guarantees → HoldsAsTested c v t
told_of c v t formed h word = record {
  assumptions = inputs_words c.inputs c.outputs v c.assumptions t.assumptions formed.assumptions.columns_fit h.assumptions;
  guarantees = h.guarantees;
  keeps = word;
}

-- the first word is computed from the others
words_computed : (found : Option ℕ) (words t : Tested) → given (Ok words) found (λ row. Err (Wide (sum_place row))) ≡ Ok t → words ≡ t
words_computed None words t h = cc
words_computed (Some row) words t h = absurd (cc)

word_is : (c : Contract) (at : Point) (t : Tested) → tested c at ≡ Ok t → t.keeps ≡ keeps_word t.assumptions t.guarantees
word_is c at t h =
    subst (λ (t : Tested). t.keeps ≡ keeps_word t.assumptions t.guarantees)
    (words_computed (position (passes_at at) (c.assumptions ++ c.guarantees)) (words_of c.assumptions c.guarantees at) t h) refl

module _ (c : Contract) (names : List Name) (x : Point) where
  -- where each name is a port, no refusal is due
  ports_known : first_missing (ports c) names ≡ None → due (Testing c names x) ≡ None
  ports_known h = ap (option_map UnknownPort) h

  -- the words of a test at the point's numbers of the ports, 0 where it has none
  pub test_holds : (v : Version) (most : Limits) (up : pos 0 <ℤ x.q) (t : Tested) → IsWellFormed c → first_missing (ports c) names ≡ None
      → tested c (point_over (ports c) (behaviour_of names x up)) ≡ Ok t → HoldsAsPrinted v most (Testing c names x) (TestedAs t)
  test_holds v most up t formed known is =
      let at = point_over (ports c) (behaviour_of names x up) in
      (ports_known known, (up, told_of c (behaviour_of names x up) t formed (tested_is_tested c at t is) (word_is c at t is)))

  -- a row whose sums pass is one of the contract's
  wide_row : (most : Limits) (at : Point) (place : Place) (found : Option ℕ) → position (passes_at at) (c.assumptions ++ c.guarantees) ≡ found
      → given (Ok (words_of c.assumptions c.guarantees at)) found (λ row. Err (Wide (sum_place row))) ≡ Err (Wide place)
      → PlaceFits most (Testing c names x) place
  wide_row most at place None first is = absurd (cc)
  wide_row most at place (Some row) first is =
      let here : sum_place row ≡ place = cc in
      let within : row < row_count c = subst (λ n. row < n) (length-append c.assumptions c.guarantees)
      (position-Some (passes_at at) (c.assumptions ++ c.guarantees) row (record { c = []; b = pos 0 }) first).0 in
      subst (PlaceFits most (Testing c names x)) here (record { task = within; problem = tt; spot = tt; pivot = tt })

  pub wide_test_holds : (v : Version) (most : Limits) (at : Point) (place : Place) → first_missing (ports c) names ≡ None
      → tested c at ≡ Err (Wide place) → HoldsAsPrinted v most (Testing c names x) (TooWide place)
  wide_test_holds v most at place known is =
      (ports_known known, wide_row most at place (position (passes_at at) (c.assumptions ++ c.guarantees)) refl is)

  -- the first name that is no port refuses the test
  pub unknown_port_due : (name : Name) → first_missing (ports c) names ≡ Some name → due (Testing c names x) ≡ Some (UnknownPort name)
  unknown_port_due name h = ap (option_map UnknownPort) h

-- the first name without a place is the first that is missing
pub missing_by_place : (ns names : List Name) → find (λ n. is_none (position (bytes_eq n) ns)) names ≡ first_missing ns names
missing_by_place ns [] = refl
missing_by_place ns (n ∷ names) =
    ap (λ b. cond b (Some n) (find (λ n. is_none (position (bytes_eq n) ns)) names)) (no_place (position (bytes_eq n) ns) (is_some-position (bytes_eq n) ns))
    ∙ ap (λ rest. cond (not (is_among ns n)) (Some n) rest) (missing_by_place ns names)
  where
    no_place : (o : Option ℕ) → is_some o ≡ is_among ns n → is_none o ≡ not (is_among ns n)
    no_place None h = ap not h
    no_place (Some i) h = ap not h
