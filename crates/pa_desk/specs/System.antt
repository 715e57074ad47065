-- A sink over a writer of the system.
use Rattle.std.specs.Prelude.{ℕ, List, Option}

-- the bytes that the writer holds, where it knows them, and the count of faults
pub record WriterState : Type 0 where
  pub written : Option (List ℕ)
  pub faults : ℕ
