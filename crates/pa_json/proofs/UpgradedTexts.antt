-- The text of an upgraded tree: which it is, that it reads back, and that it describes what the first text describes.
use Rattle.std.proofs.Common.{◌≡◌, ℕ, ◌≤◌, ◌==◌, Bool, true, false, cond, List, ◌++◌, length, codes, refl, sym, ap, ◌∙◌, subst}
use Rattle.std.proofs.Common.{arith}
use Rattle.std.proofs.Common.{Option, Some, None, Result, Ok, Err, IfOk}
use Rattle.std.specs.Prelude.{IsUtf8}
use Rattle.std.proofs.lemmas.Bool.{le-ltb, eqb-true}
use Rattle.json.specs.Lex.{tokens}
use Rattle.json.specs.Print.{print}
use Rattle.serde_json.specs.Data.{Data, depth}
use Rattle.serde_json.specs.Find.{as_object}
use Rattle.serde_json.specs.Read.{read, max_depth}
use Rattle.serde_json.specs.Written.{has_float, compact_text}
use Rattle.pa_math.specs.Answers.{and_then, needed, given, seen_as, IsAnswer}
use Rattle.pa_json.specs.Diagram.{diagram_in}
use Rattle.pa_json.specs.Diagrams.{Diagram}
use Rattle.pa_json.specs.Found.{version_of}
use Rattle.pa_json.specs.Tree.{tree_of}
use Rattle.pa_json.specs.Upgrades.{upgraded, upgraded_text, within_diagrams, is_first, upgrade_in, upgrade_of, IsUpgrade}
use Rattle.pa_json.specs.declared.limits.TheConstants.{MOST_DIAGRAM_BYTES, MOST_UPGRADE_BYTES}
use Rattle.pa_json.specs.declared.fault.DiagramFault.{DiagramFault}
use Rattle.pa_json.specs.declared.fault.DiagramFault.TheVariants.{TooLong, Json, Version, Shape}
use Rattle.pa_json.proofs.Describes.{describes}
use Rattle.pa_json.proofs.Flat.{upgraded_flat}
use Rattle.pa_json.proofs.Newlines.{feed, read_feed, utf8_feed}
use Rattle.pa_json.proofs.Steps.{both_taken}
use Rattle.pa_json.proofs.Trees.{tree_of-read, tree_of-none}
use Rattle.pa_json.proofs.Upgraded.{upgraded_describes, second_version}

-- ---- the text of a tree that was read as a diagram

module _ (d written : Data) (text new : List ℕ) (is : written ≡ upgraded d) (pushed : new ≡ text ++ feed) where
  pub text_is : (g : Diagram) → diagram_in d ≡ Ok g → (has_float written ≡ false → text ≡ compact_text written) → new ≡ upgraded_text d
  text_is g read printed =
      let flat = upgraded_flat d g (describes d g read) in
      pushed ∙ ap (λ t. t ++ feed) (printed (ap has_float is ∙ flat.0) ∙ ap compact_text is)

  pub text_reads : (g : Diagram) → diagram_in d ≡ Ok g → (depth written ≤ max_depth → read text ≡ Some written) → text ≡ print (tokens text)
      → read new ≡ Some (upgraded d)
  text_reads g found back printed =
      let flat = upgraded_flat d g (describes d g found) in
      let shallow : depth written ≤ max_depth = subst (λ w. depth w ≤ max_depth) (sym is) (omega (arith, flat.1)) in
      ap read pushed ∙ read_feed text printed ∙ back shallow ∙ ap Some is

pub text_utf8 : (text new : List ℕ) → new ≡ text ++ feed → IsUtf8 text → IsUtf8 new
text_utf8 text new pushed is = subst IsUtf8 (sym pushed) (utf8_feed text is)

-- ---- the text of a text

upgrade_of-found : (bytes : List ℕ) (found : Option Data) → length bytes ≤ MOST_UPGRADE_BYTES → tree_of bytes ≡ found
    → upgrade_of bytes ≡ and_then (needed Json found) upgrade_in
upgrade_of-found bytes found short is =
    ap (λ long. cond long (Err TooLong) (and_then (needed Json (tree_of bytes)) upgrade_in)) (le-ltb MOST_UPGRADE_BYTES (length bytes) short)
    ∙ ap (λ found. and_then (needed Json found) upgrade_in) is

-- the upgrade of a text that is JSON
pub upgrade_of-read : (bytes slice : List ℕ) (d : Data) → slice ≡ bytes → length bytes ≤ MOST_UPGRADE_BYTES → IsUtf8 slice → read slice ≡ Some d
    → upgrade_of bytes ≡ upgrade_in d
upgrade_of-read bytes slice d same short text is =
    upgrade_of-found bytes (Some d) short (ap tree_of (sym same) ∙ tree_of-read slice d text is)

-- and of one that is not
pub upgrade_of-none : (bytes slice : List ℕ) → slice ≡ bytes → length bytes ≤ MOST_UPGRADE_BYTES → (IsUtf8 slice → read slice ≡ None)
    → upgrade_of bytes ≡ Err Json
upgrade_of-none bytes slice same short refused = upgrade_of-found bytes None short (ap tree_of (sym same) ∙ tree_of-none slice refused)

is_version : (found : Option ℕ) → given false found (λ version. version == 1) ≡ true → found ≡ Some 1
is_version None is = absurd (cc)
is_version (Some v) is = ap Some (eqb-true v 1 is)

-- what an upgrade read: a diagram of version 1
upgraded_from : (d : Data) (text : List ℕ) → upgrade_in d ≡ Ok text → (g : Diagram) × (version_of d ≡ Some 1) × (diagram_in d ≡ Ok g)
upgraded_from d text is =
    let seen = both_taken (needed (Shape (codes "/")) (as_object d)) _ text is in
    by (is_first d) refl seen.2
  where
    by : (b : Bool) → is_first d ≡ b → cond b (and_then (diagram_in d) (λ _. within_diagrams (upgraded_text d))) (Err Version) ≡ Ok text
        → (g : Diagram) × (version_of d ≡ Some 1) × (diagram_in d ≡ Ok g)
    by true first e = let g = both_taken (diagram_in d) (λ _. within_diagrams (upgraded_text d)) text e in (g.0, is_version (version_of d) first, g.1)
    by false first e = absurd (cc)

-- both texts describe one diagram
pub same_clause : {T : Type 0} (seen : T → List ℕ) (bytes slice : List ℕ) (d : Data) (memory : DiagramFault) (result : Result T DiagramFault)
    → slice ≡ bytes → length bytes ≤ MOST_UPGRADE_BYTES → IsUtf8 slice → read slice ≡ Some d → IsAnswer memory (upgrade_in d) (seen_as seen result)
    → IfOk result (λ text. length (seen text) ≤ MOST_DIAGRAM_BYTES) → IfOk result (λ text. IsUtf8 (seen text))
    → IfOk result (λ text. read (seen text) ≡ Some (upgraded d)) → IfOk result (λ text. IsUpgrade bytes (seen text))
same_clause seen bytes slice d memory (Err e) same short utf8 is answer few text back = tt
same_clause seen bytes slice d memory (Ok new) same short utf8 is answer few text back =
    let from = upgraded_from d (seen new) answer in
    let old = describes d from.0 from.2 in
    record {
      diagram = from.0;
      before = record {
        few = omega arith;
        tree = d;
        is_tree = ap tree_of (sym same) ∙ tree_of-read slice d utf8 is;
        describes = old;
      };
      after = record {
        few = few;
        tree = upgraded d;
        is_tree = tree_of-read (seen new) (upgraded d) text back;
        describes = upgraded_describes d from.0 from.1 old;
      };
      second = second_version d;
    }
