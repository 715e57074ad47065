-- The contracts that a line names, where they are there, and the question that it asks of them.
use Rattle.std.proofs.Common.{◌≡◌, refl, ap₂, cond, List, [], ◌∷◌, Option, Some, None, option_map, option_and_then, find}
use Rattle.std.specs.Option.{is_none}
use Rattle.pa_meaning.specs.Contracts.{Name, Contract, Named}
use Rattle.pa_witness.specs.Steps.{Version}
use Rattle.pa_contract.specs.Named.{contract_named, contracts_named}
use Rattle.pa_script.specs.declared.op.Op.{Op}
use Rattle.pa_cert.specs.declared.answer.Answer.{Answer}
use Rattle.pa_cert.specs.declared.answer.LineAnswer.TheVariants.{Answered as AnsweredBy}
use Rattle.pa_cert.specs.Tables.{Table}
use Rattle.pa_holds.specs.Questions.{Question}
use Rattle.pa_holds.specs.Answers.{HoldsAsPrinted}
use Rattle.pa_holds.specs.Tables.{question_of, taken, HoldsOver}

-- ---- names
-- where no name is unknown, the contracts are found
module _ (contracts : List Named) where
  pub known_named : (names : List Name) → find (λ n. is_none (contract_named contracts n)) names ≡ None
      → (cs : List Contract) × (contracts_named contracts names ≡ Some cs)
  known_named [] h = ([], refl)
  known_named (n ∷ ns) h = by (contract_named contracts n) refl h (known_named ns)
    where
      by : (o : Option Contract) → contract_named contracts n ≡ o
          → cond (is_none o) (Some n) (find (λ n. is_none (contract_named contracts n)) ns) ≡ None
          → (find (λ n. is_none (contract_named contracts n)) ns ≡ None → (cs : List Contract) × (contracts_named contracts ns ≡ Some cs))
          → (cs : List Contract) × (option_and_then (λ c. option_map (λ cs. c ∷ cs) (contracts_named contracts ns)) (contract_named contracts n) ≡ Some cs)
      by None e k later = absurd (cc)
      by (Some c) e k later =
          let (cs, found) = later k in (c ∷ cs, ap₂ (λ o rest. option_and_then (λ c. option_map (λ cs. c ∷ cs) rest) o) e found)

  -- the contracts of one name, and of two
  pub named_one : (n : Name) (cs : List Contract) → contracts_named contracts (n ∷ []) ≡ Some cs
      → (c : Contract) × (contract_named contracts n ≡ Some c) × (cs ≡ c ∷ [])
  named_one n cs h = by (contract_named contracts n) refl h
    where
      by : (o : Option Contract) → contract_named contracts n ≡ o → option_and_then (λ c. option_map (λ cs. c ∷ cs) (Some [])) o ≡ Some cs
          → (c : Contract) × (contract_named contracts n ≡ Some c) × (cs ≡ c ∷ [])
      by None e k = absurd (cc)
      by (Some c) e k = let is : cs ≡ c ∷ [] = cc in (c, e, is)

  pub named_two : (n m : Name) (cs : List Contract) → contracts_named contracts (n ∷ m ∷ []) ≡ Some cs
      → (c : Contract) × (d : Contract) × (contract_named contracts n ≡ Some c) × (contract_named contracts m ≡ Some d) × (cs ≡ c ∷ d ∷ [])
  named_two n m cs h = by (contract_named contracts n) (contract_named contracts m) refl refl h
    where
      by : (o p : Option Contract) → contract_named contracts n ≡ o → contract_named contracts m ≡ p
          → option_and_then (λ c. option_map (λ cs. c ∷ cs) (option_and_then (λ d. option_map (λ cs. d ∷ cs) (Some [])) p)) o ≡ Some cs
          → (c : Contract) × (d : Contract) × (contract_named contracts n ≡ Some c) × (contract_named contracts m ≡ Some d) × (cs ≡ c ∷ d ∷ [])
      by None p e f k = absurd (cc)
      by (Some c) None e f k = absurd (cc)
      by (Some c) (Some d) e f k = let is : cs ≡ c ∷ d ∷ [] = cc in (c, d, e, f, is)

-- ---- the answer to a line whose contracts are there
-- an answer to its question that holds as it is printed holds over the table
pub line_holds : (v : Version) (table : Table) (op : Op) (q : Question) (answer : Answer) → taken table.contracts op ≡ None
    → question_of table.contracts op ≡ Some q → HoldsAsPrinted v table.limits q answer → HoldsOver v table op (AnsweredBy answer)
line_holds v table op q answer free asks holds = (free, (q, asks, holds))

-- the question of two contracts
pub two_asks : (contracts : List Named) (ask : Contract → Contract → Question) (left right : Name) (a b : Contract)
    → contract_named contracts left ≡ Some a → contract_named contracts right ≡ Some b
    → option_and_then (λ c. option_map (λ d. ask c d) (contract_named contracts right)) (contract_named contracts left) ≡ Some (ask a b)
two_asks contracts ask left right a b h k = ap₂ (λ l r. option_and_then (λ c. option_map (λ d. ask c d) r) l) h k
