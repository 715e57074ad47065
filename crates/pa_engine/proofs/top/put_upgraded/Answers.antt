use Rattle.std.proofs.Common.{⊎_elim, inl, inr, refl}
use Rattle.pa_engine.proofs.top.put_upgraded.Goals as goal

-- the text of the upgrade is due, and was put
pub returns-in-Ok-clause-due : goal.returns-in-Ok-clause-due
returns-in-Ok-clause-due g c = inl (_, _, inr (refl, c.in-Ok.ensures.ok), rw c.deref.ensures.value at c.put_text.ensures)

-- the line of what stops the run is due, and was put, or memory ran out
pub returns-in-Err-clause-due : goal.returns-in-Err-clause-due
returns-in-Err-clause-due g c =
    ⊎_elim
    (λ memory. inr (c.put_stop.ensures.memory memory))
    (λ none. inl (_, _, inl (none, refl), c.put_stop.ensures.put))
    c.in-Err.ensures.err
