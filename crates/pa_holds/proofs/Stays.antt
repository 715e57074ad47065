-- A table of well-formed contracts stays one.
use Rattle.std.proofs.Common.{◌≡◌, refl, subst, ◌≤◌, List, [], ◌∷◌, All, Option, Some, None}
use Rattle.std.proofs.lemmas.List.Elements.{All-nil, All-cons, All-weaker}
use Rattle.std.specs.List.{IsDistinct}
use Rattle.std.specs.Str.{bytes_eq}
use Rattle.pa_meaning.specs.Contracts.{Contract, Named, ports}
use Rattle.pa_witness.specs.Steps.{Version}
use Rattle.pa_contract.specs.Merge.{most_rows}
use Rattle.pa_contract.specs.Named.{contracts_named}
use Rattle.pa_contract.specs.WellFormed.{IsWellFormed}
use Rattle.pa_script.specs.declared.op.Op.{Op}
use Rattle.pa_script.specs.declared.op.Op.TheVariants.{LimitRows, LimitPivots, Merge, Test, Refine, Bound, Hide, Compose, Quotient}
use Rattle.pa_cert.specs.declared.answer.LineAnswer.{LineAnswer}
use Rattle.pa_cert.specs.declared.answer.LineAnswer.TheVariants.{Set, Unknown, Taken, Answered as AnsweredBy}
use Rattle.pa_cert.specs.Tables.{Table, contract_of, advanced}
use Rattle.pa_holds.specs.Questions.{Question, Merging, Testing, Refining, Bounding, Hiding, Composing, Dividing}
use Rattle.pa_holds.specs.Tables.{question_of, HoldsOver, AreWellFormed}
use Rattle.pa_holds.specs.Laws.{contracts_of}
use Rattle.pa_holds.proofs.Tables.{OfSome, OfAnswer, mapped, all_have, one_asked, two_asked, past_line}
use Rattle.pa_holds.proofs.WellFormed.{printed_is_well_formed}

-- the contracts of a table are well formed
abbrev pub AreFormed : Table → Type 0
AreFormed table = All (λ named. IsWellFormed named.contract) table.contracts

-- so in none of them a name stands twice
pub formed_are_distinct : (contracts : List Named) → All (λ named. IsWellFormed named.contract) contracts → AreWellFormed contracts
formed_are_distinct contracts h =
    All-weaker (λ (named : Named). IsWellFormed named.contract) (λ named. IsDistinct bytes_eq (ports named.contract)) (λ named formed. formed.distinct)
    contracts h

-- the contract of an answer, if it has one, is well formed
abbrev GivesFormed : LineAnswer → Type 0
GivesFormed answer = OfAnswer IsWellFormed answer

-- ---- what is said of each contract of a table is said of those of a question
module _ (P : Contract → Type 0) where
  abbrev EachOf : Question → Type 0
  EachOf q = All P (contracts_of q)

  one : (c : Contract) → P c → All P (c ∷ [])
  one c p = All-cons P c [] p (All-nil P)

  two : (c d : Contract) → P c → P d → All P (c ∷ d ∷ [])
  two c d p q = All-cons P c (d ∷ []) p (one d q)

  asked_have : (contracts : List Named) (op : Op) → All (λ named. P named.contract) contracts → OfSome EachOf (question_of contracts op)
  asked_have contracts (LimitRows n) h = tt
  asked_have contracts (LimitPivots n) h = tt
  asked_have contracts (Merge result left right) h = two_asked P EachOf (λ c d. Merging c d) two contracts left right h
  asked_have contracts (Test of names x) h = one_asked P EachOf (λ c. Testing c names x) one contracts of h
  asked_have contracts (Refine left right) h = two_asked P EachOf (λ c d. Refining c d) two contracts left right h
  asked_have contracts (Bound of least goal) h = one_asked P EachOf (λ c. Bounding c goal least) one contracts of h
  asked_have contracts (Hide result of names) h = one_asked P EachOf (λ c. Hiding c names) one contracts of h
  asked_have contracts (Compose result parts keep) h =
      mapped (λ ps. Composing ps keep) (All P) EachOf (λ ps d. d) (contracts_named contracts parts) (all_have P contracts parts h)
  asked_have contracts (Quotient result whole part) h = two_asked P EachOf (λ c d. Dividing c d) two contracts whole part h

-- ---- answers that hold as they are printed
if_some : (P : Contract → Type 0) (o : Option Contract) → ((c : Contract) → o ≡ Some c → P c) → OfSome P o
if_some P None f = tt
if_some P (Some c) f = f c refl

printed_gives_formed : (v : Version) (table : Table) (op : Op) (answer : LineAnswer) → table.limits.rows ≤ most_rows → AreFormed table
    → HoldsOver v table op answer → GivesFormed answer
printed_gives_formed v table op Set few h p = tt
printed_gives_formed v table op (Unknown n) few h p = tt
printed_gives_formed v table op (Taken n) few h p = tt
printed_gives_formed v table op (AnsweredBy a) few h (free, (q, is, p)) =
    let formed : All IsWellFormed (contracts_of q) =
    subst (OfSome (λ q. All IsWellFormed (contracts_of q))) is (asked_have IsWellFormed table.contracts op h) in
    if_some IsWellFormed (contract_of a) (λ c e. printed_is_well_formed v table.limits q a c few formed p e)

-- so the table past it is well formed
pub printed_table_stays : (v : Version) (table : Table) (op : Op) (answer : LineAnswer) → table.limits.rows ≤ most_rows → AreFormed table
    → HoldsOver v table op answer → AreFormed (advanced table op answer)
printed_table_stays v table op answer few h p = past_line IsWellFormed table op answer h (printed_gives_formed v table op answer few h p)
