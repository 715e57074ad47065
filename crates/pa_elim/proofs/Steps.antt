-- Steps one after another: what each leaves is what the definitions of certificates say, and the rows fit.
use Rattle.std.proofs.Common.{◌≡◌, refl, sym, ap, ◌∙◌, subst, ℕ, pred, ◌<◌, ◌≤◌, List, [], ◌∷◌, ◌++◌, append_assoc, append-nil, length, All, arith}
use Rattle.pa_meaning.specs.Rows.{Row}
use Rattle.pa_witness.specs.Steps.{Two, stepped}
use Rattle.pa_witness.specs.Columns.{projected_columns, ColumnStepsHold}
use Rattle.pa_witness.proofs.Fewer.{thinned_fewer}
use Rattle.pa_witness.proofs.Widths.{stepped_columns, thinned_columns}
use Rattle.pa_elim.specs.Projecting.{Projection}
use Rattle.pa_elim.specs.Meant.{HoldsAsProjected, StepsAreShown, drops_of, rows_by}
use Rattle.pa_elim.specs.Seen.{AreFollowed, CanStep, IsNext, IsStart}

-- before any step
pub followed_none : (limit n : ℕ) (p : Projection) → AreFollowed limit n [] p p
followed_none limit n p = record { more = []; steps = sym (append-nil p.steps); holds = tt; left = refl }

-- one step and then the others
pub followed_next : (limit n k : ℕ) (ks : List ℕ) (old next new : Projection) → IsNext limit n k old next → AreFollowed limit (pred n) ks next new
    → AreFollowed limit n (k ∷ ks) old new
followed_next limit n k ks old next new s f = record {
  more = record { drops = s.drops } ∷ f.more;
  steps = f.steps ∙ ap (λ steps. steps ++ f.more) s.steps ∙ append_assoc old.steps (record { drops = s.drops } ∷ []) f.more;
  holds = (
    s.within,
    s.holds,
    subst (λ rows. ColumnStepsHold Two limit (pred n) rows ks (drops_of f.more)) s.left f.holds,
  );
  left = f.left ∙ ap (λ rows. projected_columns Two (pred n) rows ks (drops_of f.more)) s.left;
}

-- the given rows and then all steps
pub shown_all : (limit n : ℕ) (rows : List Row) (ks : List ℕ) (start new : Projection) → IsStart n rows start → AreFollowed limit n ks start new
    → HoldsAsProjected limit n rows ks new
shown_all limit n rows ks start new s f =
    let same : new.steps ≡ record { drops = s.drops } ∷ f.more = f.steps ∙ ap (λ steps. steps ++ f.more) s.steps in
    record {
      steps = subst (StepsAreShown limit n rows ks) (sym same)
          (s.holds, subst (λ given. ColumnStepsHold Two limit n given ks (drops_of f.more)) s.left f.holds);
      left = f.left ∙ ap (λ given. projected_columns Two n given ks (drops_of f.more)) s.left ∙ ap (rows_by n rows ks) (sym same);
    }

-- the next step can be made
pub next_can : (limit n k : ℕ) (old new : Projection) → IsNext limit n k old new → k < n → limit ≤ 4096 → CanStep n old → CanStep (pred n) new
next_can limit n k old new s low within can = record {
  columns = subst (All (λ (r : Row). length r.c ≡ pred n)) (sym s.left)
      (thinned_columns (pred n) (stepped Two k old.rows) s.drops (stepped_columns Two n k old.rows low can.columns));
  few = subst (λ (rows : List Row). length rows ≤ 4096) (sym s.left)
      (let fewer = thinned_fewer (pred n) (stepped Two k old.rows) s.drops in let made = s.within in omega (arith, within, fewer, made));
  short = omega (arith, can.short);
}
