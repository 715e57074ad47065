-- What holds as printed over a table is true of it.
use Rattle.std.proofs.Common.{◌≡◌, refl, sym, ap₂, subst, Bool, true, false, not, cond, ◌++◌, filter, Option, Some, None, option_map, option_and_then, find}
use Rattle.std.proofs.Common.{List, [], ◌∷◌, All}
use Rattle.std.proofs.lemmas.List.Elements.{All-nil, All-cons, All-head, All-tail, All-push}
use Rattle.std.specs.List.{IsDistinct}
use Rattle.std.specs.Str.{bytes_eq}
use Rattle.pa_meaning.specs.Contracts.{Name, Contract, Named, ports}
use Rattle.pa_witness.specs.Steps.{Version}
use Rattle.pa_holds.specs.Questions.{Question, Merging, Testing, Refining, Bounding, Hiding, Composing, Dividing}
use Rattle.pa_holds.specs.Answers.{IsTrue, IsTrueAnswer, IsWellAsked, due}
use Rattle.pa_holds.specs.Tables.{question_of, IsTrueOf, HoldsOver, AreTrue, HoldEach, AreWellFormed}
use Rattle.pa_contract.specs.Named.{contract_named, contracts_named}
use Rattle.pa_script.specs.declared.op.Op.{Op}
use Rattle.pa_script.specs.declared.op.Op.TheVariants.{LimitRows, LimitPivots, Merge, Test, Refine, Bound, Hide, Compose, Quotient}
use Rattle.pa_script.specs.Ops.{result_of, IsWellFormedOp}
use Rattle.pa_cert.specs.declared.answer.Answer.{Answer}
use Rattle.pa_cert.specs.declared.answer.Answer.TheVariants.{Merged, Hidden, Composed, Divided}
use Rattle.pa_cert.specs.declared.answer.LineAnswer.{LineAnswer}
use Rattle.pa_cert.specs.declared.answer.LineAnswer.TheVariants.{Set, Unknown, Taken, Answered as AnsweredBy}
use Rattle.pa_cert.specs.Lists.{HiddenAnswer, ComposedAnswer, DividedAnswer}
use Rattle.pa_cert.specs.Tables.{Table, Answered, contract_of, with_limit, advanced}
use Rattle.pa_ring.specs.Sums.{without}
use Rattle.pa_meaning.specs.Composition.{is_among, is_kept, external_inputs, kept_outputs, internal_outputs, all_outputs, names_of}
use Rattle.pa_meaning.specs.Quotient.{quotient_outputs}
use Rattle.pa_witness.specs.Projection.{place_of, names_left}
use Rattle.pa_witness.proofs.Projection.{IsDistinct-without}
use Rattle.pa_meaning.proofs.CompositionPorts.{names_distinct}
use Rattle.pa_witness.proofs.NamesLeft.{left_are}
use Rattle.pa_meaning.proofs.QuotientPorts.{quotient_ports_distinct}
use Rattle.pa_contract.specs.Merge.{merged}
use Rattle.pa_contract.proofs.MergedPorts.{merged_ports_distinct}
use Rattle.pa_holds.proofs.Refusals.{merge_clear, compose_distinct, quotient_clear}
use Rattle.pa_holds.proofs.Answers.{printed_is_true}

abbrev HasDistinctPorts : Contract → Type 0
HasDistinctPorts c = IsDistinct bytes_eq (ports c)

-- what is there, if anything is
abbrev pub OfSome : {A : Type 0} → (A → Type 0) → Option A → Type 0
OfSome P None = Unit {0}
OfSome P (Some a) = P a

pub mapped : {A B : Type 0} (f : A → B) (P : A → Type 0) (Q : B → Type 0) → ((a : A) → P a → Q (f a)) → (o : Option A) → OfSome P o → OfSome Q (option_map f o)
mapped f P Q g None h = tt
mapped f P Q g (Some a) h = g a h

pub chained : {A B : Type 0} (f : A → Option B) (P : A → Type 0) (Q : B → Type 0) → ((a : A) → P a → OfSome Q (f a)) → (o : Option A) → OfSome P o
    → OfSome Q (option_and_then f o)
chained f P Q g None h = tt
chained f P Q g (Some a) h = g a h

-- what is said of each contract of a table is said of those that are looked up
module _ (P : Contract → Type 0) where
  found_has : (contracts : List Named) (test : Named → Bool) → All (λ named. P named.contract) contracts
      → OfSome (λ named. P named.contract) (find test contracts)
  found_has [] test h = tt
  found_has (n ∷ ns) test h = by (test n) (found_has ns test (All-tail (λ (named : Named). P named.contract) n ns h))
    where
      by : (b : Bool) → OfSome (λ named. P named.contract) (find test ns) → OfSome (λ named. P named.contract) (cond b (Some n) (find test ns))
      by true rest = All-head (λ (named : Named). P named.contract) n ns h
      by false rest = rest

  pub one_has : (contracts : List Named) (name : Name) → All (λ named. P named.contract) contracts → OfSome P (contract_named contracts name)
  one_has contracts name h =
      mapped (λ named. named.contract) (λ named. P named.contract) P (λ named d. d) (find (λ named. bytes_eq name named.name) contracts)
      (found_has contracts (λ named. bytes_eq name named.name) h)

  pub all_have : (contracts : List Named) (names : List Name) → All (λ named. P named.contract) contracts → OfSome (All P) (contracts_named contracts names)
  all_have contracts [] h = All-nil P
  all_have contracts (n ∷ ns) h =
      let rest = all_have contracts ns h in
      chained (λ c. option_map (λ cs. c ∷ cs) (contracts_named contracts ns)) P (All P)
      (λ c d. mapped (λ cs. c ∷ cs) (All P) (All P) (λ cs ds. All-cons P c cs d ds) (contracts_named contracts ns) rest)
      (contract_named contracts n) (one_has contracts n h)

  -- so of a question of one contract, and of two
  pub one_asked : (Q : Question → Type 0) (ask : Contract → Question) → ((c : Contract) → P c → Q (ask c)) → (contracts : List Named) (name : Name)
      → All (λ named. P named.contract) contracts → OfSome Q (option_map (λ c. ask c) (contract_named contracts name))
  one_asked Q ask f contracts name h = mapped (λ c. ask c) P Q f (contract_named contracts name) (one_has contracts name h)

  pub two_asked : (Q : Question → Type 0) (ask : Contract → Contract → Question) → ((c d : Contract) → P c → P d → Q (ask c d))
      → (contracts : List Named) (left right : Name) → All (λ named. P named.contract) contracts
      → OfSome Q (option_and_then (λ c. option_map (λ d. ask c d) (contract_named contracts right)) (contract_named contracts left))
  two_asked Q ask f contracts left right h =
      chained (λ c. option_map (λ d. ask c d) (contract_named contracts right)) P Q (λ c p. one_asked Q (ask c) (λ d. f c d p) contracts right h)
      (contract_named contracts left) (one_has contracts left h)

-- so the question that a line asks is well asked
well_asked : (contracts : List Named) (op : Op) → AreWellFormed contracts → IsWellFormedOp op → OfSome IsWellAsked (question_of contracts op)
well_asked contracts (LimitRows n) h g = tt
well_asked contracts (LimitPivots n) h g = tt
well_asked contracts (Merge result left right) h g =
    two_asked HasDistinctPorts IsWellAsked (λ c d. Merging c d) (λ c d p q. (p, q)) contracts left right h
well_asked contracts (Test of names x) h g = one_asked HasDistinctPorts IsWellAsked (λ c. Testing c names x) (λ c p. (p, g)) contracts of h
well_asked contracts (Refine left right) h g =
    two_asked HasDistinctPorts IsWellAsked (λ c d. Refining c d) (λ c d p q. (p, q)) contracts left right h
well_asked contracts (Bound of least goal) h g = one_asked HasDistinctPorts IsWellAsked (λ c. Bounding c goal least) (λ c p. (p, g)) contracts of h
well_asked contracts (Hide result of names) h g = one_asked HasDistinctPorts IsWellAsked (λ c. Hiding c names) (λ c p. p) contracts of h
well_asked contracts (Compose result parts keep) h g =
    mapped (λ ps. Composing ps keep) (All HasDistinctPorts) IsWellAsked (λ ps d. d) (contracts_named contracts parts)
    (all_have HasDistinctPorts contracts parts h)
well_asked contracts (Quotient result whole part) h g =
    two_asked HasDistinctPorts IsWellAsked (λ c d. Dividing c d) (λ c d p q. (p, q)) contracts whole part h

-- An answer to a line that holds as it is printed is true of the table.
pub line_is_true : (v : Version) (table : Table) (op : Op) (answer : LineAnswer) → AreWellFormed table.contracts → IsWellFormedOp op
    → HoldsOver v table op answer → IsTrueOf table op answer
line_is_true v table (LimitRows n) Set h g holds = tt
line_is_true v table (LimitPivots n) Set h g holds = tt
line_is_true v table op Set h g holds = absurd holds
line_is_true v table op (Unknown n) h g holds = holds
line_is_true v table op (Taken n) h g holds = holds
line_is_true v table op (AnsweredBy a) h g (free, (q, is, printed)) =
    (free, (q, is, printed_is_true v table.limits q a (subst (OfSome IsWellAsked) is (well_asked table.contracts op h g)) printed))

-- ---- reports
-- the names that are left are different
pub names_left_distinct : (names gone : List Name) → IsDistinct bytes_eq names → IsDistinct bytes_eq (names_left names gone)
names_left_distinct names [] d = d
names_left_distinct names (g ∷ gone) d = names_left_distinct (without (place_of g names) names) gone (IsDistinct-without (place_of g names) names d)

same_ports : (c : Contract) (inputs outputs : List Name) → c.inputs ≡ inputs → c.outputs ≡ outputs → IsDistinct bytes_eq (inputs ++ outputs)
    → HasDistinctPorts c
same_ports c inputs outputs e f d = subst (IsDistinct bytes_eq) (sym (ap₂ ◌++◌ e f)) d

merged_distinct : (question : Question) (m : Contract) → IsWellAsked question → due question ≡ None → IsTrue question (Merged m) → HasDistinctPorts m
merged_distinct (Merging c other) m w n h =
    same_ports m (merged c other).inputs (merged c other).outputs h.meaning.inputs h.meaning.outputs
    (merged_ports_distinct c other w.0 w.1 (merge_clear c other n))
merged_distinct question m w n h = absurd h

hidden_distinct : (question : Question) (a : HiddenAnswer) → IsWellAsked question → IsTrue question (Hidden a) → HasDistinctPorts a.contract
hidden_distinct (Hiding c names) a w h =
    same_ports a.contract c.inputs (filter (λ n. not (is_among names n)) c.outputs) h.inputs h.outputs
    (subst (IsDistinct bytes_eq) (left_are (λ n. not (is_among names n)) (is_among names) (λ n. twice (is_among names n)) c.inputs c.outputs w)
    (names_left_distinct (ports c) (filter (is_among names) c.outputs) w))
  where
    twice : (b : Bool) → b ≡ not (not b)
    twice true = refl
    twice false = refl
hidden_distinct question a w h = absurd h

composed_distinct : (question : Question) (a : ComposedAnswer) → IsWellAsked question → due question ≡ None → IsTrue question (Composed a)
    → HasDistinctPorts a.contract
composed_distinct (Composing parts keep) a w n h =
    let different = names_distinct parts (compose_distinct parts keep n) in
    same_ports a.contract (external_inputs parts) (kept_outputs parts keep) h.inputs h.outputs
    (subst (IsDistinct bytes_eq)
    (left_are (is_kept parts keep) (λ m. not (is_kept parts keep m)) (λ m. refl) (external_inputs parts) (all_outputs parts) different)
    (names_left_distinct (names_of parts) (internal_outputs parts keep) different))
composed_distinct question a w n h = absurd h

divided_distinct : (question : Question) (a : DividedAnswer) → IsWellAsked question → due question ≡ None → IsTrue question (Divided a)
    → HasDistinctPorts a.contract
divided_distinct (Dividing whole part) a w n h =
    same_ports a.contract whole.inputs (quotient_outputs whole part) h.inputs h.outputs
    (quotient_ports_distinct whole part w.0 w.1 (quotient_clear whole part n))
divided_distinct question a w n h = absurd h

-- the contract of a true answer has different ports
true_distinct : (question : Question) (answer : Answer) → IsWellAsked question → IsTrueAnswer question answer → OfSome HasDistinctPorts (contract_of answer)
true_distinct question (Merged m) w h = merged_distinct question m w h.0 h.1
true_distinct question (Hidden a) w h = hidden_distinct question a w h.1
true_distinct question (Composed a) w h = composed_distinct question a w h.0 h.1
true_distinct question (Divided a) w h = divided_distinct question a w h.0 h.1
true_distinct question answer w h = tt

-- ---- the table past an answer
-- what is said of the contract of an answer, if it has one
abbrev pub OfAnswer : (Contract → Type 0) → LineAnswer → Type 0
OfAnswer P (AnsweredBy a) = OfSome P (contract_of a)
OfAnswer P Set = Unit {0}
OfAnswer P (Unknown n) = Unit {0}
OfAnswer P (Taken n) = Unit {0}

-- what is said of each contract of a table, and of the answer's, is said of each contract of the table past it
module _ (P : Contract → Type 0) where
  past_answer : (table : Table) (op : Op) (a : Answer) → All (λ named. P named.contract) table.contracts → OfSome P (contract_of a)
      → All (λ named. P named.contract) (advanced table op (AnsweredBy a)).contracts
  past_answer table op a h d = by (result_of op) (contract_of a) refl refl d
    where
      by : (name : Option Name) (c : Option Contract) → result_of op ≡ name → contract_of a ≡ c → OfSome P c
          → All (λ named. P named.contract) (advanced table op (AnsweredBy a)).contracts
      by None None e f d = rw (e, f) h
      by None (Some c) e f d = rw (e, f) h
      by (Some n) None e f d = rw (e, f) h
      by (Some n) (Some c) e f d = rw (e, f) (All-push (λ named. P named.contract) table.contracts (record { name = n; contract = c }) h d)

  past_limit : (table : Table) (op : Op) → All (λ named. P named.contract) table.contracts → All (λ named. P named.contract) (with_limit table op).contracts
  past_limit table (LimitRows n) h = h
  past_limit table (LimitPivots n) h = h
  past_limit table op h = h

  pub past_line : (table : Table) (op : Op) (answer : LineAnswer) → All (λ named. P named.contract) table.contracts → OfAnswer P answer
      → All (λ named. P named.contract) (advanced table op answer).contracts
  past_line table op Set h d = past_limit table op h
  past_line table op (Unknown n) h d = h
  past_line table op (Taken n) h d = h
  past_line table op (AnsweredBy a) h d = past_answer table op a h d

-- so the table stays well formed
line_distinct : (table : Table) (op : Op) (answer : LineAnswer) → AreWellFormed table.contracts → IsWellFormedOp op → IsTrueOf table op answer
    → OfAnswer HasDistinctPorts answer
line_distinct table op Set h g t = tt
line_distinct table op (Unknown n) h g t = tt
line_distinct table op (Taken n) h g t = tt
line_distinct table op (AnsweredBy a) h g (free, (q, is, true')) =
    true_distinct q a (subst (OfSome IsWellAsked) is (well_asked table.contracts op h g)) true'

-- A report whose answers hold as they are printed has true answers alone.
pub report_is_true : (v : Version) (table : Table) (lines : List Answered) → AreWellFormed table.contracts → All (λ l. IsWellFormedOp l.line.op) lines
    → HoldEach v table lines → AreTrue table lines
report_is_true v table [] h g holds = tt
report_is_true v table (l ∷ lines) h g holds =
    let first : IsTrueOf table l.line.op l.answer = line_is_true v table l.line.op l.answer h (All-head (λ l. IsWellFormedOp l.line.op) l lines g) holds.0 in (
      first,
      report_is_true v (advanced table l.line.op l.answer) lines
          (past_line HasDistinctPorts table l.line.op l.answer h
          (line_distinct table l.line.op l.answer h (All-head (λ l. IsWellFormedOp l.line.op) l lines g) first))
          (All-tail (λ l. IsWellFormedOp l.line.op) l lines g) holds.1,
    )
