-- The names after renaming are distinct exactly where no port is refused, so the answer is the wired contract or `Twice`.
use Rattle.std.proofs.Common.{rules, sym, ap, ◌∙◌, subst, inr, Ok, Err}
use Rattle.std.specs.List.{IsDistinct}
use Rattle.std.specs.Str.{bytes_eq}
use Rattle.pa_names.specs.Names.{all_renamed}
use Rattle.pa_json.specs.declared.fault.DiagramFault.TheVariants.{Wire}
use Rattle.pa_json.specs.declared.fault.WireKind.TheVariants.{Twice}
use Rattle.pa_json.proofs.Parts.{repeats_where_taken}
use Rattle.pa_json.proofs.Wires.{wired_once, wired_twice, wired_is}
use Rattle.pa_json.proofs.part.wired_of.Goals as goal

pub returns-in_ok-with_ports-in-Ok : goal.returns-in_ok-with_ports-in-Ok
returns-in_ok-with_ports-in-Ok c =
    wired_once c.args.path.now c.args.contract.now c.args.wires.now.items
    (subst (λ ns. IsDistinct bytes_eq (all_renamed c.args.wires.now.items ns)) c.requires.names c.in-Ok.ensures.distinct)
    ∙ ap Ok (sym
    (wired_is c.args.contract.now c.in_ok-with_ports-in-Ok.field-0 c.args.wires.now.items c.args.names.now c.in-Ok.renamed c.requires.names c.in-Ok.ensures.ok
    c.in_ok-with_ports-in-Ok.ensures))

pub returns-in_ok-copy-in-Err-Taken : goal.returns-in_ok-copy-in-Err-Taken
returns-in_ok-copy-in-Err-Taken c =
    inr
    (wired_twice c.args.path.now c.args.contract.now c.args.wires.now.items
    (repeats_where_taken _ _ (search rules) (rw c.requires.names at c.in-Err-Taken.ensures.err))
    ∙ ap (λ path. Err (Wire path Twice)) (sym c.in_ok-copy-in-Err-Taken.ensures))
