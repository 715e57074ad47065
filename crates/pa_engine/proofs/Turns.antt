-- The lines of a script one after the other: what is put so far, the table, and whether some answer was a refusal. Then the
-- report in its three parts.
use Rattle.std.proofs.Common.{◌≡◌, ◌≤◌, ◌<◌, ◌+◌, ℕ, List, [], ◌∷◌, ◌++◌, length, drop, get_or, refl, ap, sym, ◌∙◌, subst}
use Rattle.std.proofs.Common.{Bool, true, false, ◌||◌, Option}
use Rattle.std.specs.Prelude.{flat_map}
use Rattle.std.proofs.lemmas.List.{drop_more, drop_all, length-map}
use Rattle.pa_desk.specs.Taken.{with_bytes, TookPrefix}
use Rattle.pa_script.specs.declared.op.ScriptLine.{ScriptLine}
use Rattle.pa_cert.specs.Tables.{Table, is_refused}
use Rattle.pa_cert.specs.AnswerText.{answer_text, first_line, end_line, report_of}
use Rattle.pa_answers.specs.Answers.{answers_from, answer_of, answered, past}
use Rattle.pa_engine.specs.Ends.{some_refused}
use Rattle.pa_answers.proofs.Scripts.{lines_answered}
use Rattle.pa_engine.proofs.Puts.{IsUnderWay, begun, goes_on, cut_off, stopped, ended, prefix_within, prefix_after, both_parts}

-- the text of the answers to some lines
abbrev pub answers_text : Table → List ScriptLine → List ℕ
answers_text table lines = flat_map answer_text (answers_from table lines)

-- before the line at a place
pub record IsAt (old now : Option (List ℕ)) (first table : Table) (lines : List ScriptLine) (place : ℕ) (refused : Bool) : Type 0 where
  pub under_way : IsUnderWay old now (answers_text first lines) (answers_text table (drop place lines))
  pub refusals : (refused || some_refused (answers_from table (drop place lines))) ≡ some_refused (answers_from first lines)

pub begins : (old : Option (List ℕ)) (table : Table) (lines : List ScriptLine) → IsAt old old table table lines 0 false
begins old table lines = record { under_way = begun old (answers_text table lines); refusals = refl }

or_more : (a b c : Bool) → ((a || b) || c) ≡ (a || (b || c))
or_more true b c = refl
or_more false b c = refl

module _ (old now : Option (List ℕ)) (first table : Table) (lines : List ScriptLine) (place : ℕ) (refused : Bool)
    (at : IsAt old now first table lines place refused) where
  module _ (line : ScriptLine) (within : place < length lines) (here : line ≡ get_or lines place line) where
    -- the answers that are left begin with that of the line
    left : answers_from table (drop place lines) ≡ answered table line ∷ answers_from (past table line) (drop (place + 1) lines)
    left = ap (answers_from table) (drop_more lines place line within ∙ ap (λ l. l ∷ drop (place + 1) lines) (sym here))

    under_way : IsUnderWay old now (answers_text first lines) (answer_text (answered table line) ++ answers_text (past table line) (drop (place + 1) lines))
    under_way = subst (λ answers. IsUnderWay old now (answers_text first lines) (flat_map answer_text answers)) left at.under_way

    pub turns : (new : Option (List ℕ)) (next : Table) (is_refusal said : Bool) → new ≡ with_bytes now (answer_text (answered table line))
        → next ≡ past table line → is_refusal ≡ is_refused (answer_of table line.op) → said ≡ (refused || is_refusal)
        → IsAt old new first next lines (place + 1) said
    turns new next is_refusal said taken is_past is says =
        subst (λ t. IsAt old new first t lines (place + 1) said) (sym is_past)
        (record {
          under_way = goes_on old now new (answers_text first lines) (answer_text (answered table line))
              (answers_text (past table line) (drop (place + 1) lines)) under_way taken;
          refusals = ap (λ b. b || some_refused (answers_from (past table line) (drop (place + 1) lines))) says
              ∙ or_more refused is_refusal (some_refused (answers_from (past table line) (drop (place + 1) lines)))
              ∙ ap (λ b. refused || (b || some_refused (answers_from (past table line) (drop (place + 1) lines)))) is
              ∙ ap (λ answers. refused || some_refused answers) (sym left) ∙ at.refusals;
        })

    -- a front of the line's answer is put
    pub breaks_off : (new : Option (List ℕ)) → TookPrefix now new (answer_text (answered table line)) → TookPrefix old new (answers_text first lines)
    breaks_off new front = cut_off old now new (answers_text first lines) (answer_text (answered table line))
        (answers_text (past table line) (drop (place + 1) lines)) under_way front

  -- nothing more is put
  pub stays : (new : Option (List ℕ)) → new ≡ now → TookPrefix old new (answers_text first lines)
  stays new same = stopped old now new (answers_text first lines) (answers_text table (drop place lines)) at.under_way same

  -- no line is left
  module _ (past_all : length lines ≤ place) where
    none_left : drop place lines ≡ []
    none_left = drop_all place lines past_all

    pub all_put : now ≡ with_bytes old (answers_text first lines)
    all_put = ended old now (answers_text first lines)
        (subst (λ ls. IsUnderWay old now (answers_text first lines) (answers_text table ls)) none_left at.under_way)

    pub all_told : refused ≡ some_refused (answers_from first lines)
    all_told = sym (or_false refused) ∙ ap (λ ls. refused || some_refused (answers_from table ls)) (sym none_left) ∙ at.refusals
      where
        or_false : (b : Bool) → (b || false) ≡ b
        or_false true = refl
        or_false false = refl

-- ---- the report: its first line, the answers, and their number

count_answers : (table : Table) (lines : List ScriptLine) → length (answers_from table lines) ≡ length lines
count_answers table lines = sym (length-map (answers_from table lines) (λ a. a.line)) ∙ ap (λ ls. length ls) (lines_answered lines table)

last_line : (table : Table) (lines : List ScriptLine) (count : ℕ) → count ≡ length lines → end_line count ≡ end_line (length (answers_from table lines))
last_line table lines count is = ap end_line (is ∙ sym (count_answers table lines))

module _ (table : Table) (lines : List ScriptLine) (old : Option (List ℕ)) where
  abbrev body : List ℕ
  body = answers_text table lines

  abbrev last : List ℕ
  last = end_line (length (answers_from table lines))

  pub front_of_first : (new : Option (List ℕ)) → TookPrefix old new first_line → TookPrefix old new (report_of (answers_from table lines))
  front_of_first new front = prefix_within old new first_line (body ++ last) front

  pub front_of_answers : (mid new : Option (List ℕ)) → mid ≡ with_bytes old first_line → TookPrefix mid new body
      → TookPrefix old new (report_of (answers_from table lines))
  front_of_answers mid new first front = prefix_after old mid new first_line (body ++ last) first (prefix_within mid new body last front)

  pub front_of_last : (mid late new : Option (List ℕ)) (count : ℕ) → count ≡ length lines → mid ≡ with_bytes old first_line → late ≡ with_bytes mid body
      → TookPrefix late new (end_line count) → TookPrefix old new (report_of (answers_from table lines))
  front_of_last mid late new count is first answers front =
      prefix_after old mid new first_line (body ++ last) first
      (prefix_after mid late new body last answers (subst (TookPrefix late new) (last_line table lines count is) front))

  pub whole_report : (mid late new : Option (List ℕ)) (count : ℕ) → count ≡ length lines → mid ≡ with_bytes old first_line → late ≡ with_bytes mid body
      → new ≡ with_bytes late (end_line count) → new ≡ with_bytes old (report_of (answers_from table lines))
  whole_report mid late new count is first answers whole =
      both_parts old mid new first_line (body ++ last) first
      (both_parts mid late new body last answers (whole ∙ ap (with_bytes late) (last_line table lines count is)))
