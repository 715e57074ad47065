-- The ports of a contract from its two lists.
use Rattle.std.proofs.Common.{◌≡◌, ◌≤◌, ℕ, List, [], length, codes, sym, ap, ◌∙◌, arith, cond, Result, Ok, Err, nat_lt}
use Rattle.std.proofs.lemmas.Bool.{le-ltb}
use Rattle.serde_json.specs.Data.{Data}
use Rattle.pa_math.specs.Answers.{and_then}
use Rattle.pa_meaning.specs.Contracts.{Name}
use Rattle.pa_json.specs.Diagram.{ports_of, all_ports}
use Rattle.pa_json.specs.Layouts.{Layout}
use Rattle.pa_json.specs.declared.fault.DiagramFault.{DiagramFault}
use Rattle.pa_json.specs.declared.fault.DiagramFault.TheVariants.{Limit}

-- no more ports than the layout allows are all ports
pub all_ports_are : (path : List ℕ) (layout : Layout) (d : Data) (constants none inputs names : List Name) (count most : ℕ)
    → layout.constants.names ≡ constants → none ≡ [] → ports_of path (codes "inputs") constants none d ≡ Ok inputs → count ≡ length inputs
    → ports_of path (codes "outputs") constants inputs d ≡ Ok names → layout.most_ports ≡ most → length names ≤ most
    → all_ports path layout d ≡ Ok (count, names)
all_ports_are path layout d constants none inputs names count most known empty first counted second bound few =
    let bounded : List Name → List Name → Result (ℕ × List Name) DiagramFault =
    λ inputs names. cond (nat_lt layout.most_ports (length names)) (Err (Limit path)) (Ok (length inputs, names)) in
    let firsts : ports_of path (codes "inputs") layout.constants.names [] d ≡ Ok inputs =
    ap (λ cs. ports_of path (codes "inputs") cs [] d) known ∙ ap (λ ns. ports_of path (codes "inputs") constants ns d) (sym empty) ∙ first in
    let seconds : ports_of path (codes "outputs") layout.constants.names inputs d ≡ Ok names =
    ap (λ cs. ports_of path (codes "outputs") cs inputs d) known ∙ second in
    ap (λ r. and_then r (λ inputs. and_then (ports_of path (codes "outputs") layout.constants.names inputs d) (bounded inputs))) firsts
    ∙ ap (λ r. and_then r (bounded inputs)) seconds
    ∙ ap (λ b. let r : Result (ℕ × List Name) DiagramFault = cond b (Err (Limit path)) (Ok (length inputs, names)) in r)
    (le-ltb layout.most_ports (length names) (omega arith))
    ∙ ap (λ n. let r : Result (ℕ × List Name) DiagramFault = Ok (n, names) in r) (sym counted)
