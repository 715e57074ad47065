use Rattle.std.proofs.Common.{arith, rules, ◌≡◌, true, nat_eq}
use Rattle.std.specs.List.{list_any}
use Rattle.pa_desk.proofs.Counts.{HasCause-listed}
use Rattle.pa_desk.proofs.memory.MemSinkSink.put.Goals as goal

pub returns-then-contains-clause-cause : goal.returns-then-contains-clause-cause
returns-then-contains-clause-cause c =
    let listed : list_any (λ x. nat_eq x c.self.inside.puts) c.self.inside.fails.items ≡ true = grind arith in
    rw (← c.self.view_is) (HasCause-listed _ _ _ _ _ _ (search rules) c.saturating_add-self-inside.ensures c.self.invariant.1 listed)
