-- What is read where no weights exist shows that there are none.
use Rattle.std.proofs.Common.{◌≡◌, ℤ, List, [], length, map, All, Ok, sym, ap, subst, ◌∙◌}
use Rattle.std.specs.List.{range_with_len}
use Rattle.std.proofs.lemmas.List.{length-map}
use Rattle.std.proofs.lemmas.List.Elements.{All-from_get_or}
use Rattle.std.proofs.lemmas.List.FromFn.{length-map-range_with_len}
use lib.IntN.{pos}
use lib.Signed.{◌≤ℤ◌}
use Rattle.pa_ring.specs.Sums.{dot}
use Rattle.pa_meaning.specs.Directions.{Sticks}
use Rattle.pa_meaning.specs.Rows.{Row}
use Rattle.pa_meaning.proofs.Directions.{stuck_without_weights}
use Rattle.pa_row.specs.Fractions.{direction_in, point_in, without_common}
use Rattle.pa_row.proofs.CommonDenominators.{over_length}
use Rattle.pa_row.proofs.Directions.{without_common_direction, without_common_length, without_common_primitive}
use Rattle.pa_row.proofs.Dots.{and_then_ok, ok_same}
use Rattle.pa_replay.specs.declared.«end».End.TheVariants.{NoWeights}
use Rattle.pa_replay.specs.Problem.{Problem}
use Rattle.pa_replay.specs.Readings.{differences_read, direction_answer, numbers_in}
use Rattle.pa_replay.specs.Replay.{Ended}
use Rattle.pa_replay.specs.Shown.{ShowsNoWeights, asked}
use Rattle.pa_replay.proofs.CommonPoints.{HavePositive, point_formed}
use Rattle.pa_replay.proofs.LeastShown.{numbers_positive}
use Rattle.pa_replay.proofs.Solved.{IsSolved}
use Rattle.pa_replay.proofs.WholeDirections.{differences_are, direction_read, sticks_whole}
use Rattle.pa_replay.proofs.WholePoints.{HasSigns}

pub no_weights_shown : (p : Problem) (ended : Ended) (s : IsSolved p ended) (d : List ℤ) → ended.answer ≡ Ok NoWeights →
    All (λ (row : Row). length row.c ≡ length p.target) p.rows → HasSigns p ended.table →
    Ok d ≡ direction_answer (length p.target) (length p.rows) ended.table → ShowsNoWeights p d
no_weights_shown p ended s d e columns signs h =
    let n = length p.target in
    let m = length p.rows in
    let t = ended.table in
    let (fs, read, formed) = and_then_ok (differences_read n m t) direction_in d h in
    let (x, made, last) = and_then_ok (point_in fs) (λ x. Ok (without_common x.p)) d formed in
    let are : fs ≡ map numbers_in (map (direction_read n m t) (range_with_len 0 n)) = differences_are n m t 0 0 n fs read in
    let dens : HavePositive fs = subst HavePositive (sym are) (numbers_positive (map (direction_read n m t) (range_with_len 0 n))) in
    let (up, has) = point_formed fs x dens made in
    let same : d ≡ without_common x.p = ok_same d (without_common x.p) last in
    let stuck = sticks_whole p ended s fs d e columns signs read (without_common_direction fs x d up has same) in
    let sticks : Sticks d p.rows (asked p) = record {
      level = All-from_get_or (λ (r : Row). dot r.c d ≤ℤ pos 0) p.rows (record { c = []; b = pos 0 }) stuck.0;
      rises = stuck.1;
    } in
    record {
      columns = without_common_length x.p d same ∙ over_length x.q fs x.p has.columns ∙ ap length are
          ∙ length-map (map (direction_read n m t) (range_with_len 0 n)) numbers_in
          ∙ length-map-range_with_len (direction_read n m t) 0 n;
      primitive = without_common_primitive x.p d same;
      sticks = sticks;
      none = λ w makes. stuck_without_weights d p.rows (asked p) w sticks makes;
    }
