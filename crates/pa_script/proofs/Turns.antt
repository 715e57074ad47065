-- A loop whose turns may be refused: what is left makes what is due.
use Rattle.std.proofs.Common.{◌≡◌, ◌⊎◌, ◌<◌, ℕ, refl, subst, length, inl, inr, sym, ap, ◌∙◌, Result, Ok, Err, List, ◌∷◌, Bool, true, false, nat_le}
use Rattle.std.specs.Prelude.{if◌then◌else◌}
use Rattle.std.proofs.lemmas.Bool.{lt-leb}
use Rattle.pa_math.specs.Answers.{and_then, IsAnswer}
use Rattle.pa_script.specs.declared.fault.ScriptFault.{ScriptFault}
use Rattle.pa_script.specs.declared.fault.ScriptFault.TheVariants.{Memory}
use Rattle.pa_script.specs.declared.op.Op.{Op}
use Rattle.pa_script.specs.declared.op.ScriptLine.{ScriptLine}
use Rattle.pa_script.specs.Lines.{op_of}
use Rattle.pa_script.specs.Script.{most_lines, with_op, with_words}
use Rattle.pa_script.specs.Steps.{each}

-- the turn gave a value, so what is left is due from it
pub turn_taken : {A X E : Type 0} (step : A → X → Result A E) (a b : A) (x : X) (left more : List X) (all : Result A E)
    → step a x ≡ Ok b → left ≡ x ∷ more → each step a left ≡ all → each step b more ≡ all
turn_taken step a b x left more all is begins so_far = sym (ap (λ r. and_then r (λ c. each step c more)) is) ∙ sym (ap (each step a) begins) ∙ so_far

-- the turn was refused, so its refusal is due, or memory ran out
pub turn_refused : {A X E : Type 0} (step : A → X → Result A E) (a : A) (x : X) (left more : List X) (all : Result A E) (memory e : E)
    → (e ≡ memory) ⊎ (step a x ≡ Err e) → left ≡ x ∷ more → each step a left ≡ all → (e ≡ memory) ⊎ (all ≡ Err e)
turn_refused step a x left more all memory e (inl free) begins so_far = inl free
turn_refused step a x left more all memory e (inr due) begins so_far = inr (sym so_far ∙ ap (each step a) begins ∙ ap (λ r. and_then r (λ c. each step c
    more)) due)

-- the answer that is due where a test passes
pub tested : {A E : Type 0} (memory fault : E) (test : Bool) (due r : Result A E) → test ≡ true → IsAnswer memory due r → IsAnswer memory (if test then due
    else Err fault) r
tested memory fault true due r is answer = answer
tested memory fault false due r is answer = absurd (cc)

-- a line behind fewer than there may be gives what its operation gives
pub words_taken : (lines : List ScriptLine) (number : ℕ) (line : List ℕ) (op : Op) (r : Result (List ScriptLine) ScriptFault) → length lines < most_lines
    → op_of number line ≡ Ok op → IsAnswer Memory (Ok (with_op lines number op)) r → IsAnswer Memory (with_words lines number line) r
words_taken lines number line op r few is answer =
    let long : nat_le most_lines (length lines) ≡ false = lt-leb most_lines (length lines) few in
    let due : with_words lines number line ≡ Ok (with_op lines number op) = rw (long, is) refl in
    subst (λ d. IsAnswer Memory d r) (sym due) answer
