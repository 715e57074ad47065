-- What holds of an elimination by the columns that go, as they stand in the given rows.
use Rattle.std.proofs.Common.{◌≡◌, ap, ◌∙◌, subst, ℕ, ◌+◌, ◌≤◌, List, [], length, All, Result, IfOk}
use Rattle.std.proofs.lemmas.Result.{IfOk-weaker}
use Rattle.pa_meaning.specs.Rows.{Row}
use Rattle.pa_elim.specs.Projecting.{Projection, in_turn}
use Rattle.pa_elim.specs.Meant.{AreColumns, HoldsAsProjected, IsProjection}
use Rattle.pa_elim.specs.Seen.{AreInTurn}
use Rattle.pa_elim.proofs.InTurn.{columns_in_turn, length-in_turn_after}
use Rattle.pa_elim.proofs.Meant.{projected_count, projected_few, projected_long, projected_met}

-- the places in turn can go
pub places_fit : (n : ℕ) (gone places : List ℕ) → AreColumns n gone → places ≡ in_turn gone → AreInTurn n places
places_fit n gone places columns is = rw is (columns_in_turn n gone columns)

pub gone_met : (limit n : ℕ) (rows : List Row) (gone : List ℕ) (p : Projection) → HoldsAsProjected limit n rows (in_turn gone) p
    → IsProjection gone rows p.rows
gone_met limit n rows gone p h = projected_met limit n rows (in_turn gone) p h

module _ (limit n : ℕ) (rows : List Row) (gone : List ℕ) (long : All (λ (r : Row). length r.c ≡ n) rows) (few : length rows ≤ 4096) (small : limit ≤ 4096)
    (columns : AreColumns n gone) (p : Projection) (h : HoldsAsProjected limit n rows (in_turn gone) p) where
  pub gone_long : All (λ (r : Row). length r.c + length gone ≡ n) p.rows
  gone_long =
      subst (λ m. All (λ (r : Row). length r.c + m ≡ n) p.rows) (length-in_turn_after [] gone)
      (projected_long limit n rows (in_turn gone) long few small (columns_in_turn n gone columns) p h)

  pub gone_few : length p.rows ≤ 4096
  gone_few = projected_few limit n rows (in_turn gone) long few small (columns_in_turn n gone columns) p h

  pub gone_count : length p.steps ≡ length gone + 1
  gone_count =
      projected_count limit n rows (in_turn gone) long few small (columns_in_turn n gone columns) p h ∙ ap (λ m. m + 1) (length-in_turn_after [] gone)

-- what follows of the steps of an answer by the places in turn
pub of_steps : {E : Type 0} (limit n : ℕ) (rows : List Row) (gone places : List ℕ) (r : Result Projection E) → places ≡ in_turn gone
    → IfOk r (HoldsAsProjected limit n rows places) → (P : Projection → Type 0) → ((p : Projection) → HoldsAsProjected limit n rows (in_turn gone) p → P p)
    → IfOk r P
of_steps limit n rows gone places r is h P f =
    IfOk-weaker r (HoldsAsProjected limit n rows places) P (λ p k. f p (subst (λ ks. HoldsAsProjected limit n rows ks p) is k)) h
