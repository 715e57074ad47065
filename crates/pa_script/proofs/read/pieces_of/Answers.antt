use Rattle.std.proofs.Common.{rules, ◌==◌, length, ap, arith}
use Rattle.std.proofs.lemmas.List.{length-map}
use Rattle.std.proofs.lemmas.List.Splits.{length-slice_split}
use Rattle.std.proofs.lemmas.List.Sums.{count_by-le-length}
use Rattle.std.proofs.lemmas.Result.{IfOk-weaker}
use Rattle.std.proofs.lemmas.Iterator.Consumers.{map_from_collect}
use Rattle.std.proofs.lemmas.Iterator.Splits.{YieldsList-from_slice_split}
use Rattle.pa_script.proofs.read.pieces_of.Goals as goal

pub returns-clause-pieces : goal.returns-clause-pieces
returns-clause-pieces c =
    map_from_collect _ c.collect.ensures.ran
    (YieldsList-from_slice_split _ (λ b. b == 10) c.args.bytes.now c.split.ensures.rest c.split.ensures.done c.split.ensures.closure (λ x b q h. search rules))

-- as many pieces as line feeds, and one more
pub returns-clause-few : goal.returns-clause-few
returns-clause-few c =
    IfOk-weaker c.collect.result _ _
    (λ pieces is. omega (
      arith,
      ap length is,
      length-map pieces.items (λ piece. piece.now),
      length-slice_split (λ b. b == 10) c.args.bytes.now,
      count_by-le-length (λ b. b == 10) c.args.bytes.now,
    ))
    (returns-clause-pieces c)
