-- A part that was read, or its refusal, is the next step of what is due.
use Rattle.std.proofs.Common.{length, refl}
use Rattle.pa_json.specs.Diagram.{part_of, with_parts}
use Rattle.pa_json.specs.Paths.{item_path}
use Rattle.pa_json.proofs.NamedItems.{named_taken, named_refused}
use Rattle.pa_json.proofs.part.with_parts.Goals as goal

pub returns-in-Err-clause-answer : goal.returns-in-Err-clause-answer
returns-in-Err-clause-answer c =
    let contracts = c.args.contracts.now in
    let path = c.args.list.now in
    named_refused (λ parts. part_of contracts parts (item_path path (length parts))) (with_parts contracts path) (λ _ _ _. refl) c.loop-tree.parts
    c.args.items.now c.loop-tree.tree-index _ _ _ _ c.loop-tree-test.true c.tree-item.is c.in-Err.ensures.answer c.loop-tree.invariant.whole

pub loop-tree-preserved : goal.loop-tree-preserved
loop-tree-preserved c =
    let contracts = c.args.contracts.now in
    let path = c.args.list.now in
    record {
      whole =
          named_taken (λ parts. part_of contracts parts (item_path path (length parts))) (with_parts contracts path) (λ _ _ _. refl) c.loop-tree.parts
          c.in-Ok.more c.args.items.now c.loop-tree.tree-index _ _ c.loop-tree-test.true c.tree-item.is c.in-Ok.ensures.answer c.loop-tree.invariant.whole;
      fit = c.in-Ok.ensures.fit c.loop-tree.invariant.fit;
    }
