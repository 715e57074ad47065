-- The answer to each line holds over the table as it is printed, by definitions alone, and the table can go past it: so all answers of
-- a script hold, each over the table that the earlier ones leave, and are true.
use Rattle.std.proofs.Common.{◌≡◌, ◌∙◌, suc, length, List, [], ◌∷◌, refl, sym, ap, subst, Option, Some, None, Result, Ok, Err}
use Rattle.std.proofs.Common.{Bool, true, false, cond, All, IfOk, option_map}
use Rattle.std.specs.Prelude.{option_and_then, is_some, IfSome}
use Rattle.std.proofs.lemmas.List.Elements.{All-cons, All-head, All-nil, All-tail}
use Rattle.pa_meaning.specs.Rows.{Point}
use Rattle.pa_meaning.specs.Bounds.{Goal}
use Rattle.pa_meaning.specs.Contracts.{Name, Contract}
use Rattle.pa_witness.specs.Steps.{Two}
use Rattle.pa_row.specs.Steps.{IsLimit}
use Rattle.pa_contract.specs.Merge.{merge_of}
use Rattle.pa_contract.specs.Named.{contract_named, contracts_named}
use Rattle.pa_contract.specs.Nominal.{IsNominal}
use Rattle.pa_contract.specs.WellFormed.{IsWellFormed}
use Rattle.pa_script.specs.declared.op.ScriptLine.{ScriptLine}
use Rattle.pa_script.specs.declared.op.Op.{Op}
use Rattle.pa_script.specs.declared.op.Op.TheVariants.{LimitRows, LimitPivots, Merge, Test, Refine, Bound, Hide, Compose, Quotient}
use Rattle.pa_script.specs.Ops.{operands, result_of, IsPointOf, IsGoal, IsWellFormedOp, IsWellFormedLine}
use Rattle.pa_cert.specs.declared.answer.LineAnswer.{LineAnswer}
use Rattle.pa_cert.specs.declared.answer.LineAnswer.TheVariants.{Set, Unknown, Taken, Answered as AnsweredBy}
use Rattle.pa_cert.specs.Tables.{Table, Answered, contract_of, IsFree, CanAdvance, advanced, with_answer, with_limit}
use Rattle.pa_holds.specs.Questions.{Question, Merging, Testing, Refining, Bounding, Hiding, Composing, Dividing}
use Rattle.pa_holds.specs.Tables.{unknown, taken, question_of, IsTrueOf, HoldsOver, AreTrue, HoldEach}
use Rattle.pa_holds.proofs.Tables.{OfSome, all_have, one_has, line_is_true, report_is_true}
use Rattle.pa_holds.proofs.Lookups.{known_named, named_one, named_two, two_asks, line_holds}
use Rattle.pa_holds.proofs.Stays.{formed_are_distinct, printed_table_stays}
use Rattle.pa_refine.specs.Refining.{refined_of}
use Rattle.pa_refine.specs.Bounding.{bounded_of}
use Rattle.pa_compose.specs.Hiding.{hidden_of}
use Rattle.pa_compose.specs.Composing.{composed_of}
use Rattle.pa_quotient.specs.Dividing.{divided_of}
use Rattle.pa_answers.specs.Answers.{merge_answer, test_answer, refine_answer, bound_answer, hide_answer, compose_answer, answer_on, answer_of}
use Rattle.pa_answers.specs.Answers.{quotient_answer, answered, answers_from, first_unknown, past, AreFormed}
use Rattle.pa_answers.proofs.Questions.{HoldsTo, merge_told, test_told, refine_told, bound_told, hide_told}
use Rattle.pa_answers.proofs.Compositions.{compose_told}
use Rattle.pa_answers.proofs.Quotients.{quotient_told}

-- ---- the answer by what is due first
answer_unknown : (table : Table) (op : Op) (name : Name) → unknown table.contracts op ≡ Some name → answer_of table op ≡ Unknown name
answer_unknown table op name first = rw first refl

answer_taken : (table : Table) (op : Op) (name : Name) → unknown table.contracts op ≡ None → taken table.contracts op ≡ Some name
    → answer_of table op ≡ Taken name
answer_taken table op name known there = rw (known, there) refl

answer_given : (table : Table) (op : Op) (cs : List Contract) → unknown table.contracts op ≡ None → taken table.contracts op ≡ None
    → contracts_named table.contracts (operands op) ≡ Some cs → answer_of table op ≡ answer_on table op cs
answer_given table op cs known free named = rw (known, free, named) refl

-- ---- lines whose contracts are there
pub merge_given : (table : Table) (result left right : Name) (a b : Contract) → contract_named table.contracts left ≡ Some a
    → contract_named table.contracts right ≡ Some b → is_some (contract_named table.contracts result) ≡ false
    → answer_of table (Merge result left right) ≡ merge_answer (merge_of a b)
merge_given table result left right a b h k free = rw (h, k, free) refl

pub test_given : (table : Table) (of : Name) (names : List Name) (x : Point) (c : Contract) → contract_named table.contracts of ≡ Some c
    → answer_of table (Test of names x) ≡ test_answer c names x
test_given table of names x c h = rw h refl

pub refine_given : (table : Table) (left right : Name) (a b : Contract) → contract_named table.contracts left ≡ Some a
    → contract_named table.contracts right ≡ Some b
    → answer_of table (Refine left right) ≡ refine_answer a (refined_of a b table.limits.pivots)
refine_given table left right a b h k = rw (h, k) refl

pub bound_given : (table : Table) (of : Name) (least : Bool) (goal : Goal) (c : Contract) → contract_named table.contracts of ≡ Some c
    → answer_of table (Bound of least goal) ≡ bound_answer c (bounded_of c goal least table.limits.pivots)
bound_given table of least goal c h = rw h refl

pub hide_given : (table : Table) (result of : Name) (names : List Name) (c : Contract) → contract_named table.contracts of ≡ Some c
    → is_some (contract_named table.contracts result) ≡ false
    → answer_of table (Hide result of names) ≡ hide_answer (hidden_of c names table.limits.rows table.limits.pivots)
hide_given table result of names c h free = rw (h, free) refl

pub compose_given : (table : Table) (result : Name) (names keep : List Name) (cs : List Contract) → first_unknown table names ≡ None
    → is_some (contract_named table.contracts result) ≡ false → contracts_named table.contracts names ≡ Some cs
    → answer_of table (Compose result names keep) ≡ compose_answer cs (composed_of cs keep table.nominal table.limits.rows table.limits.pivots)
compose_given table result names keep cs known free named = rw (known, free, named) refl

pub quotient_given : (table : Table) (result whole part : Name) (a b : Contract) → contract_named table.contracts whole ≡ Some a
    → contract_named table.contracts part ≡ Some b → is_some (contract_named table.contracts result) ≡ false
    → answer_of table (Quotient result whole part) ≡ quotient_answer b (divided_of a b table.nominal table.limits.pivots)
quotient_given table result whole part a b h k free = rw (h, k, free) refl

-- as many contracts are found as are named
pub named_many : (table : Table) (names : List Name) (cs : List Contract) → contracts_named table.contracts names ≡ Some cs → length cs ≡ length names
named_many table [] cs h = let is : cs ≡ [] = cc in ap length is
named_many table (n ∷ ns) cs h = by (contract_named table.contracts n) (contracts_named table.contracts ns) h (named_many table ns)
  where
    by : (o : Option Contract) (rest : Option (List Contract)) → option_and_then (λ c. option_map (λ cs. c ∷ cs) rest) o ≡ Some cs
        → ((ds : List Contract) → rest ≡ Some ds → length ds ≡ length ns) → length cs ≡ length (n ∷ ns)
    by None rest h later = absurd (cc)
    by (Some c) None h later = absurd (cc)
    by (Some c) (Some ds) h later = let is : cs ≡ c ∷ ds = cc in ap length is ∙ ap (λ k. suc k) (later ds refl)

module _ (table : Table) (formed : AreFormed table) (limited : IsLimit table.limits.rows) where
  abbrev Holds : Op → LineAnswer → Type 0
  Holds op answer = HoldsOver Two table op answer

  found_formed : (name : Name) (c : Contract) → contract_named table.contracts name ≡ Some c → IsWellFormed c
  found_formed name c is = subst (OfSome IsWellFormed) is (one_has IsWellFormed table.contracts name formed.contracts)

  all_formed : (names : List Name) (cs : List Contract) → contracts_named table.contracts names ≡ Some cs → All IsWellFormed cs
  all_formed names cs is = subst (OfSome (All IsWellFormed)) is (all_have IsWellFormed table.contracts names formed.contracts)

  -- what its question is told holds of the line
  line_told : (op : Op) (q : Question) (answer : LineAnswer) → taken table.contracts op ≡ None → question_of table.contracts op ≡ Some q
      → HoldsTo table.limits q answer → Holds op answer
  line_told op q (AnsweredBy answer) free asks told = line_holds Two table op q answer free asks told
  line_told op q Set free asks told = absurd told
  line_told op q (Unknown name) free asks told = absurd told
  line_told op q (Taken name) free asks told = absurd told

  -- ---- where the contracts of the line are there, and the name of its result is free
  on_merge : (result left right : Name) (cs : List Contract) → contracts_named table.contracts (left ∷ right ∷ []) ≡ Some cs
      → taken table.contracts (Merge result left right) ≡ None → Holds (Merge result left right) (answer_on table (Merge result left right) cs)
  on_merge result left right cs named free =
      let op = Merge result left right in
      let (a, b, h, k, is) = named_two table.contracts left right cs named in
      subst (λ cs. Holds op (answer_on table op cs)) (sym is) (line_told op (Merging a b) (merge_answer (merge_of a b)) free
      (two_asks table.contracts (λ c d. Merging c d) left right a b h k) (merge_told table.limits a b))

  on_test : (of : Name) (names : List Name) (x : Point) → IsPointOf names x → (cs : List Contract)
      → contracts_named table.contracts (of ∷ []) ≡ Some cs → Holds (Test of names x) (answer_on table (Test of names x) cs)
  on_test of names x point cs named =
      let op = Test of names x in
      let (c, h, is) = named_one table.contracts of cs named in
      subst (λ cs. Holds op (answer_on table op cs)) (sym is) (line_told op (Testing c names x) (test_answer c names x) refl
      (ap (option_map (λ c. Testing c names x)) h) (test_told table.limits c names x (found_formed of c h) point))

  on_refine : (left right : Name) (cs : List Contract) → contracts_named table.contracts (left ∷ right ∷ []) ≡ Some cs
      → Holds (Refine left right) (answer_on table (Refine left right) cs)
  on_refine left right cs named =
      let op = Refine left right in
      let (a, b, h, k, is) = named_two table.contracts left right cs named in
      subst (λ cs. Holds op (answer_on table op cs)) (sym is) (line_told op (Refining a b) (refine_answer a (refined_of a b table.limits.pivots)) refl
      (two_asks table.contracts (λ c d. Refining c d) left right a b h k) (refine_told table.limits a b (found_formed left a h)))

  on_bound : (of : Name) (least : Bool) (goal : Goal) → IsGoal goal → (cs : List Contract) → contracts_named table.contracts (of ∷ []) ≡ Some cs
      → Holds (Bound of least goal) (answer_on table (Bound of least goal) cs)
  on_bound of least goal up cs named =
      let op = Bound of least goal in
      let (c, h, is) = named_one table.contracts of cs named in
      subst (λ cs. Holds op (answer_on table op cs)) (sym is)
      (line_told op (Bounding c goal least) (bound_answer c (bounded_of c goal least table.limits.pivots)) refl
      (ap (option_map (λ c. Bounding c goal least)) h) (bound_told table.limits c goal least (found_formed of c h) up))

  on_hide : (result of : Name) (names : List Name) (cs : List Contract) → contracts_named table.contracts (of ∷ []) ≡ Some cs
      → taken table.contracts (Hide result of names) ≡ None → Holds (Hide result of names) (answer_on table (Hide result of names) cs)
  on_hide result of names cs named free =
      let op = Hide result of names in
      let (c, h, is) = named_one table.contracts of cs named in
      subst (λ cs. Holds op (answer_on table op cs)) (sym is)
      (line_told op (Hiding c names) (hide_answer (hidden_of c names table.limits.rows table.limits.pivots)) free
      (ap (option_map (λ c. Hiding c names)) h) (hide_told table.limits c names (found_formed of c h) limited.greatest))

  on_compose : (result : Name) (names keep : List Name) (cs : List Contract) → contracts_named table.contracts names ≡ Some cs
      → taken table.contracts (Compose result names keep) ≡ None → Holds (Compose result names keep) (answer_on table (Compose result names keep) cs)
  on_compose result names keep cs named free =
      line_told (Compose result names keep) (Composing cs keep)
      (compose_answer cs (composed_of cs keep table.nominal table.limits.rows table.limits.pivots)) free (ap (option_map (λ ps. Composing ps keep)) named)
      (compose_told table.limits cs keep table.nominal limited.greatest (all_formed names cs named) formed.nominal)

  on_quotient : (result whole part : Name) (cs : List Contract) → contracts_named table.contracts (whole ∷ part ∷ []) ≡ Some cs
      → taken table.contracts (Quotient result whole part) ≡ None → Holds (Quotient result whole part) (answer_on table (Quotient result whole part) cs)
  on_quotient result whole part cs named free =
      let op = Quotient result whole part in
      let (a, b, h, k, is) = named_two table.contracts whole part cs named in
      subst (λ cs. Holds op (answer_on table op cs)) (sym is)
      (line_told op (Dividing a b) (quotient_answer b (divided_of a b table.nominal table.limits.pivots)) free
      (two_asks table.contracts (λ c d. Dividing c d) whole part a b h k)
      (quotient_told table.limits a b table.nominal (found_formed whole a h) (found_formed part b k) formed.nominal))

  -- ---- any line
  on_all : (op : Op) → IsWellFormedOp op → (cs : List Contract) → contracts_named table.contracts (operands op) ≡ Some cs
      → taken table.contracts op ≡ None → Holds op (answer_on table op cs)
  on_all (LimitRows most) w cs named free = tt
  on_all (LimitPivots most) w cs named free = tt
  on_all (Merge result left right) w cs named free = on_merge result left right cs named free
  on_all (Test of names x) w cs named free = on_test of names x w cs named
  on_all (Refine left right) w cs named free = on_refine left right cs named
  on_all (Bound of least goal) w cs named free = on_bound of least goal w cs named
  on_all (Hide result of names) w cs named free = on_hide result of names cs named free
  on_all (Compose result parts keep) w cs named free = on_compose result parts keep cs named free
  on_all (Quotient result whole part) w cs named free = on_quotient result whole part cs named free

  by_due : (op : Op) → IsWellFormedOp op → (first there : Option Name) → unknown table.contracts op ≡ first
      → taken table.contracts op ≡ there → Holds op (answer_of table op)
  by_due op w (Some name) there h k = subst (Holds op) (sym (answer_unknown table op name h)) h
  by_due op w None (Some name) h k = subst (Holds op) (sym (answer_taken table op name h k)) (h, k)
  by_due op w None None h k =
      let (cs, named) = known_named table.contracts (operands op) h in
      subst (Holds op) (sym (answer_given table op cs h k named)) (on_all op w cs named k)

-- the answer of a line holds over the table as it is printed, and so is true of it
pub answer_holds : (table : Table) (op : Op) → AreFormed table → IsLimit table.limits.rows → IsWellFormedOp op
    → HoldsOver Two table op (answer_of table op)
answer_holds table op formed limited w = by_due table formed limited op w _ _ refl refl

answer_true : (table : Table) (op : Op) → AreFormed table → IsLimit table.limits.rows → IsWellFormedOp op
    → IsTrueOf table op (answer_of table op)
answer_true table op formed limited w =
    line_is_true Two table op (answer_of table op) (formed_are_distinct table.contracts formed.contracts) w (answer_holds table op formed limited w)

-- ---- the limits past an answer
set_limits : (table : Table) (op : Op) → IsLimit table.limits.rows → IsWellFormedOp op → IsLimit (with_limit table op).limits.rows
set_limits table (LimitRows most) l w = w
set_limits table (LimitPivots most) l w = l
set_limits table (Merge result left right) l w = l
set_limits table (Test of names x) l w = l
set_limits table (Refine left right) l w = l
set_limits table (Bound of least goal) l w = l
set_limits table (Hide result of names) l w = l
set_limits table (Compose result parts keep) l w = l
set_limits table (Quotient result whole part) l w = l

limits_stay : (table : Table) (op : Op) (answer : LineAnswer) → IsLimit table.limits.rows → IsWellFormedOp op
    → IsLimit (advanced table op answer).limits.rows
limits_stay table op Set l w = set_limits table op l w
limits_stay table op (Unknown name) l w = l
limits_stay table op (Taken name) l w = l
limits_stay table op (AnsweredBy a) l w = by (result_of op) (contract_of a)
  where
    by : (name : Option Name) (contract : Option Contract) → IsLimit (with_answer table name contract).limits.rows
    by name None = l
    by None (Some c) = l
    by (Some n) (Some c) = l

-- ---- the nominal values past an answer
nominal_stays : (table : Table) (op : Op) (answer : LineAnswer) → IsNominal table.nominal → IsNominal (advanced table op answer).nominal
nominal_stays table op (Unknown name) h = h
nominal_stays table op (Taken name) h = h
nominal_stays table op Set h = limit_set op
  where
    limit_set : (op : Op) → IsNominal (with_limit table op).nominal
    limit_set (LimitRows most) = h
    limit_set (LimitPivots most) = h
    limit_set (Merge result left right) = h
    limit_set (Test of names at) = h
    limit_set (Refine left right) = h
    limit_set (Bound of least goal) = h
    limit_set (Hide result of names) = h
    limit_set (Compose result parts keep) = h
    limit_set (Quotient result whole part) = h
nominal_stays table op (AnsweredBy a) h = by (result_of op) (contract_of a)
  where
    by : (name : Option Name) (contract : Option Contract) → IsNominal (with_answer table name contract).nominal
    by name None = h
    by None (Some c) = h
    by (Some n) (Some c) = h

-- all answers of a script hold as they are printed
pub answers_hold : (lines : List ScriptLine) (table : Table)
    → AreFormed table → IsLimit table.limits.rows → All IsWellFormedLine lines
    → HoldEach Two table (answers_from table lines)
answers_hold [] table formed limited w = tt
answers_hold (line ∷ lines) table formed limited w =
    let op_formed = (All-head IsWellFormedLine line lines w).op in
    let holds = answer_holds table line.op formed limited op_formed in (
      holds,
      answers_hold lines (past table line)
          (record {
            contracts = printed_table_stays Two table line.op (answer_of table line.op) limited.greatest formed.contracts holds;
            nominal = nominal_stays table line.op (answer_of table line.op) formed.nominal;
          })
          (limits_stay table line.op (answer_of table line.op) limited op_formed)
          (All-tail IsWellFormedLine line lines w),
    )

-- so they are true
answered_formed : (lines : List ScriptLine) (table : Table) → All IsWellFormedLine lines
    → All (λ (l : Answered). IsWellFormedOp l.line.op) (answers_from table lines)
answered_formed [] table w = All-nil (λ (l : Answered). IsWellFormedOp l.line.op)
answered_formed (line ∷ lines) table w =
    All-cons (λ (l : Answered). IsWellFormedOp l.line.op) (answered table line) (answers_from (past table line) lines)
    (All-head IsWellFormedLine line lines w).op (answered_formed lines (past table line) (All-tail IsWellFormedLine line lines w))

pub answers_true : (lines : List ScriptLine) (table : Table)
    → AreFormed table → IsLimit table.limits.rows → All IsWellFormedLine lines
    → AreTrue table (answers_from table lines)
answers_true lines table formed limited w =
    report_is_true Two table (answers_from table lines) (formed_are_distinct table.contracts formed.contracts) (answered_formed lines table w)
    (answers_hold lines table formed limited w)

-- ---- the table goes past an answer
free_of : (table : Table) (name : Name) (found : Option Contract)
    → contract_named table.contracts name ≡ found → cond (is_some found) (Some name) None ≡ None
    → contract_named table.contracts name ≡ None
free_of table name None is h = is
free_of table name (Some c) is h = absurd (cc)

result_free : (table : Table) (result : Option Name)
    → option_and_then (λ n. cond (is_some (contract_named table.contracts n)) (Some n) None) result ≡ None → IsFree table result
result_free table None h = tt
result_free table (Some name) h = free_of table name (contract_named table.contracts name) refl h

if_some : {A : Type 0} (P : Type 0) (found : Option A) → P → IfSome found (λ a. P)
if_some P None p = tt
if_some P (Some a) p = p

-- a refused name aside, the result's name is free
given_advances : (table : Table) (op : Op) (answer : LineAnswer) → taken table.contracts op ≡ None → CanAdvance table op answer
given_advances table op Set free = tt
given_advances table op (Unknown name) free = tt
given_advances table op (Taken name) free = tt
given_advances table op (AnsweredBy a) free = if_some (IsFree table (result_of op)) (contract_of a) (result_free table (result_of op) free)

advances_by : (table : Table) (op : Op) (first there : Option Name) → unknown table.contracts op ≡ first → taken table.contracts op ≡ there
    → CanAdvance table op (answer_of table op)
advances_by table op (Some name) there h k = subst (CanAdvance table op) (sym (answer_unknown table op name h)) tt
advances_by table op None (Some name) h k = subst (CanAdvance table op) (sym (answer_taken table op name h k)) tt
advances_by table op None None h k = given_advances table op (answer_of table op) k

pub answer_advances : (table : Table) (op : Op) → CanAdvance table op (answer_of table op)
answer_advances table op = advances_by table op (unknown table.contracts op) (taken table.contracts op) refl refl

-- ---- of a call's result
pub if_ok_holds : {E : Type 0} (table : Table) (op : Op) → IsLimit table.limits.rows → IsWellFormedOp op
    → (r : Result LineAnswer E) → IfOk r (λ a. a ≡ answer_of table op)
    → AreFormed table → IfOk r (HoldsOver Two table op)
if_ok_holds table op limited w (Ok a) is formed = subst (HoldsOver Two table op) (sym is) (answer_holds table op formed limited w)
if_ok_holds table op limited w (Err e) is formed = tt

pub if_ok_true : {E : Type 0} (table : Table) (op : Op) → IsLimit table.limits.rows → IsWellFormedOp op
    → (r : Result LineAnswer E) → IfOk r (λ a. a ≡ answer_of table op)
    → AreFormed table → IfOk r (IsTrueOf table op)
if_ok_true table op limited w (Ok a) is formed = subst (IsTrueOf table op) (sym is) (answer_true table op formed limited w)
if_ok_true table op limited w (Err e) is formed = tt

pub if_ok_advances : {E : Type 0} (table : Table) (op : Op) (r : Result LineAnswer E)
    → IfOk r (λ a. a ≡ answer_of table op) → IfOk r (CanAdvance table op)
if_ok_advances table op (Ok a) is = subst (CanAdvance table op) (sym is) (answer_advances table op)
if_ok_advances table op (Err e) is = tt
