-- What is read at an endless column shows that no point meets the rows.
use Rattle.std.proofs.Common.{◌≡◌, ℕ, ℤ, List, length, All, Ok, sym, subst, inr}
use Rattle.pa_math.specs.Answers.{and_then}
use Rattle.pa_meaning.specs.Rows.{Row}
use Rattle.pa_meaning.specs.Weights.{AllPlaced, IsContradiction, NoneNegative, Proves, Weights, combined, impossible}
use Rattle.pa_meaning.proofs.Farkas.{none_meets}
use Rattle.pa_row.specs.Fractions.{weights_in}
use Rattle.pa_row.proofs.Dots.{and_then_ok, ok_same}
use Rattle.pa_tableau.specs.Tableau.{Tableau}
use Rattle.pa_replay.specs.declared.«end».End.TheVariants.{Endless}
use Rattle.pa_replay.specs.Problem.{Problem}
use Rattle.pa_replay.specs.Readings.{EndlessRead, endless_answer, ray_read, weights_read}
use Rattle.pa_replay.specs.Replay.{Ended}
use Rattle.pa_replay.specs.Shown.{ShowsEndless}
use Rattle.pa_replay.proofs.LeastShown.{AreFormed, formed_make, weights_formed}
use Rattle.pa_replay.proofs.ReadWeights.{endless_ascending, last_ascending, none_negative, numbers_placed}
use Rattle.pa_replay.proofs.Solved.{IsSolved}
use Rattle.pa_replay.proofs.WeightSums.{weights_positive}
use Rattle.pa_replay.proofs.WholeEnds.{last_whole}
use Rattle.pa_replay.proofs.WholeRays.{endless_whole, ray_positive}

pub endless_shown : (p : Problem) (ended : Ended) (c : ℕ) (s : IsSolved p ended) (a : EndlessRead) → ended.answer ≡ Ok (Endless c) →
    All (λ (row : Row). length row.c ≡ length p.target) p.rows →
    Ok a ≡ endless_answer (length p.target) (length p.rows) c ended.table → ShowsEndless p a
endless_shown p ended c s a e columns h =
    let (ray, formed, rest) = and_then_ok (weights_in (ray_read n m c t))
    (λ ray. and_then (weights_in (weights_read n m t)) (λ last. Ok (answer ray last))) a h in
    let (last, read, made) = and_then_ok (weights_in (weights_read n m t)) (λ last. Ok (answer ray last)) a rest in
    subst (ShowsEndless p) (sym (ok_same a (answer ray last) made))
    (shown ray last (weights_formed (ray_read n m c t) ray (ray_positive n m c t) formed)
    (weights_formed (weights_read n m t) last (weights_positive n m t) read))
  where
    n : ℕ
    n = length p.target

    m : ℕ
    m = length p.rows

    t : Tableau
    t = ended.table

    answer : Weights → Weights → EndlessRead
    answer ray last = record { ray = ray; last = last }

    shown : (ray last : Weights) → AreFormed (ray_read n m c t) ray → AreFormed (weights_read n m t) last → ShowsEndless p (answer ray last)
    shown ray last f g =
        let falls : IsContradiction (combined ray.parts p.rows) = subst (λ (parts : List (ℕ × ℤ)). IsContradiction (combined parts p.rows)) (sym f.are)
        (endless_whole p ended c s ray.den f.numerators e columns f.positive f.over) in
        let proves : Proves ray p.rows (impossible n) = record {
          positive = f.positive;
          weights = subst NoneNegative (sym f.are)
              (none_negative 0 m (ray_read n m c t) ray.den f.numerators (endless_ascending p ended c s e) (ray_positive n m c t) f.positive f.over);
          places = subst (λ parts. AllPlaced parts p.rows) (sym f.are)
              (numbers_placed 0 m (ray_read n m c t) f.numerators (endless_ascending p ended c s e));
          shown = inr falls;
        } in
        record {
          falls = falls;
          proves = proves;
          unmet = λ x up met. none_meets ray p.rows n x up proves met;
          makes = formed_make p (weights_read n m t) last g (last_ascending p ended c s e) (weights_positive n m t)
              (last_whole p ended c s last.den g.numerators e columns g.over);
        }
