-- The contracts by name that lines work on, the limits in force, and what an answer does to them.
use Rattle.std.specs.Prelude.{◌≡◌, ℕ, List, [], ◌∷◌, ◌++◌, Bool, true, false, Option, Some, None, IfSome}
use Rattle.pa_math.specs.Answers.{given}
use Rattle.pa_meaning.specs.Contracts.{Name, Contract, Named}
use Rattle.pa_contract.specs.Named.{contract_named}
use Rattle.pa_contract.specs.Nominal.{Nominal}
use Rattle.pa_script.specs.declared.op.ScriptLine.{ScriptLine}
use Rattle.pa_script.specs.declared.op.Op.{Op}
use Rattle.pa_script.specs.declared.op.Op.TheVariants.{LimitRows, LimitPivots}
use Rattle.pa_script.specs.Ops.{result_of}
use Rattle.pa_cert.specs.declared.answer.Answer.{Answer}
use Rattle.pa_cert.specs.declared.answer.Answer.TheVariants.{Merged, Hidden, Composed, Divided, Refused}
use Rattle.pa_cert.specs.declared.answer.Answer.TheVariants.{NoMultipliers, NoMultipliersFor, Circle, RowLimit, PivotLimit, TooWide}
use Rattle.pa_cert.specs.declared.answer.LineAnswer.{LineAnswer}
use Rattle.pa_cert.specs.declared.answer.LineAnswer.TheVariants.{Set, Unknown, Taken, Answered as AnsweredBy}

-- the limits in force: rows of a step, and pivots of a problem
pub record Limits : Type 0 where
  pub rows : ℕ
  pub pivots : ℕ

-- the contracts by their names in the order in which they came, the nominal values, and the limits in force
pub record Table : Type 0 where
  pub contracts : List Named
  pub nominal : Nominal
  pub limits : Limits

-- the table without answers yet, with the limits that no line has set: 1,024 rows and 4,096 pivots
abbrev pub first_table : List Named → Nominal → Table
first_table contracts nominal = record { contracts = contracts; nominal = nominal; limits = record { rows = 1024; pivots = 4096 } }

-- the contract of an answer, where it has one
abbrev pub contract_of : Answer → Option Contract
contract_of (Merged m) = Some m
contract_of (Hidden a) = Some a.contract
contract_of (Composed a) = Some a.contract
contract_of (Divided a) = Some a.contract
contract_of answer = None

-- the table with the limit of a limit line
abbrev pub with_limit : Table → Op → Table
with_limit table (LimitRows n) = record { contracts = table.contracts; nominal = table.nominal; limits = record { rows = n; pivots = table.limits.pivots } }
with_limit table (LimitPivots n) = record { contracts = table.contracts; nominal = table.nominal; limits = record { rows = table.limits.rows; pivots = n } }
with_limit table op = table

-- the table with a contract more, under a name
abbrev pub with_named : Table → Name → Contract → Table
with_named table name c = record {
  contracts = table.contracts ++ record { name = name; contract = c } ∷ [];
  nominal = table.nominal;
  limits = table.limits;
}

-- the table with a contract under the name of a result, where there is a name
abbrev pub with_result : Table → Option Name → Contract → Table
with_result table name contract = given table name (λ n. with_named table n contract)

-- and where there is a contract
abbrev pub with_answer : Table → Option Name → Option Contract → Table
with_answer table name contract = given table contract (with_result table name)

-- the table past an answer: its contract stands under the name of the line's result, and a limit is set
abbrev pub advanced : Table → Op → LineAnswer → Table
advanced table op Set = with_limit table op
advanced table op (AnsweredBy a) = with_answer table (result_of op) (contract_of a)
advanced table op (Unknown n) = table
advanced table op (Taken n) = table

-- no contract has the name of the result, where there is a name
abbrev pub IsFree : Table → Option Name → Type 0
IsFree table name = IfSome name (λ n. contract_named table.contracts n ≡ None)

abbrev pub CanAdd : Table → Option Name → Option Contract → Type 0
CanAdd table name contract = IfSome contract (λ c. IsFree table name)

-- what an answer needs to advance the table: where it has a contract, the name of the line's result is free
abbrev pub CanAdvance : Table → Op → LineAnswer → Type 0
CanAdvance table op Set = Unit {0}
CanAdvance table op (AnsweredBy a) = CanAdd table (result_of op) (contract_of a)
CanAdvance table op (Unknown n) = Unit {0}
CanAdvance table op (Taken n) = Unit {0}

-- whether the answer is a refusal; that a contract does not refine, has no bound or no behaviour is none
abbrev pub is_refusal : Answer → Bool
is_refusal (Refused r) = true
is_refusal (NoMultipliers s) = true
is_refusal (NoMultipliersFor row h) = true
is_refusal (Circle ss) = true
is_refusal (RowLimit step count) = true
is_refusal (PivotLimit task part) = true
is_refusal (TooWide place) = true
is_refusal answer = false

abbrev pub is_refused : LineAnswer → Bool
is_refused Set = false
is_refused (Unknown n) = true
is_refused (Taken n) = true
is_refused (AnsweredBy a) = is_refusal a

-- a line with its answer
pub record Answered : Type 0 where
  pub line : ScriptLine
  pub answer : LineAnswer
