-- Rows are proved one after another, up to the first that a point breaks.
use Rattle.std.proofs.Common.{◌≡◌, ◌∙◌, ap, sym, subst, inl, inr, ◌⊎◌, ℕ, ◌+◌, ◌<◌, ◌≤◌, add-one, List, [], ◌∷◌, ◌++◌, append-nil, length, drop, take, get_or}
use Rattle.std.proofs.Common.{Result, Ok, Err, replicate, take-suc, take_all, arith}
use Rattle.std.proofs.lemmas.List.{drop_all}
use Rattle.std.specs.List.{AllZip}
use lib.IntN.{ℤ, pos, ◌*ℤ◌, *ℤ-zero}
use lib.Signed.{◌<ℤ◌}
use Rattle.pa_ring.proofs.Integers.{gap, ◌⊕◌}
use Rattle.pa_ring.proofs.IntegerTactics.{by_lt, reads}
use Rattle.pa_ring.proofs.Sums.{number_at-times}
use Rattle.pa_meaning.specs.Rows.{Row, row_at}
use Rattle.pa_meaning.specs.Weights.{Weights, Proves, Implies, IsContradiction, combined, impossible}
use Rattle.pa_meaning.proofs.Farkas.{impossible_is_contradiction}
use Rattle.pa_row.proofs.Turns.{row_at_read}
use Rattle.pa_contract.proofs.Steps.{drop-read}
use Rattle.pa_tableau.specs.Arithmetic.{each}
use Rattle.pa_tableau.proofs.Walks.{behind, behind_none, behind_more, behind_fault}
use Rattle.pa_farkas.specs.Alternatives.{BreaksAt, ShowsUnmet}
use Rattle.pa_holds.specs.Refined.{ProveEach}
use Rattle.pa_refine.specs.declared.covering.Stop.{Stop}
use Rattle.pa_refine.specs.declared.covering.Stop.TheVariants.{Broken, Halted}
use Rattle.pa_refine.specs.Refining.{no_memory, proof_of, proofs_of}
use Rattle.pa_refine.specs.Seen.{IsBrokenRow, IsStop}

-- what makes `0 <= -1` is a contradiction
falls : (n : ℕ) (den : ℤ) (sum : Row) → pos 0 <ℤ den → Implies den sum (impossible n) → IsContradiction sum
falls n den sum up h = record {
  coefficients = λ i. h.coefficients i ∙ number_at-times den (replicate n (pos 0)) i
      ∙ ap (λ z. den *ℤ z) ((impossible_is_contradiction n).coefficients i) ∙ *ℤ-zero den;
  bound = by_lt (sum.b ∷ den ∷ []) (up ⊕ gap h.bound) (search reads depth 40) tt;
}

-- weights that no point meets prove any row
pub empty_proves : (rows : List Row) (row : Row) (n : ℕ) (w : Weights) → ShowsUnmet n rows w → Proves w rows row
empty_proves rows row n w s = record {
  positive = s.proves.positive;
  weights = s.proves.weights;
  places = s.proves.places;
  shown = by s.proves.shown;
}
  where
    by : Implies w.den (combined w.parts rows) (impossible n) ⊎ IsContradiction (combined w.parts rows)
        → Implies w.den (combined w.parts rows) row ⊎ IsContradiction (combined w.parts rows)
    by (inl h) = inr (falls n w.den (combined w.parts rows) s.proves.positive h)
    by (inr h) = inr h

-- ---- the loop
AllZip-more : {A B : Type 0} (R : A → B → Type 0) (xs : List A) (ys : List B) (x : A) (y : B) → AllZip R xs ys → R x y
    → AllZip R (xs ++ x ∷ []) (ys ++ y ∷ [])
AllZip-more R [] [] x y h r = (r, tt)
AllZip-more R [] (b ∷ ys) x y h r = absurd h
AllZip-more R (a ∷ xs) [] x y h r = absurd h
AllZip-more R (a ∷ xs) (b ∷ ys) x y h r = (h.0, AllZip-more R xs ys x y h.1 r)

module _ (premises : List Row) (most first : ℕ) (rows : List Row) where
  -- the weights of the row at a place
  abbrev pub step : ℕ → Row → Result Weights Stop
  step place row = proof_of premises most (first + place) place row

  -- the weights so far and those of the rest are all
  abbrev pub IsSoFar : ℕ → List Weights → Type 0
  IsSoFar i ws = proofs_of premises most first rows ≡ behind ws (each step i (drop i rows))

  pub so_far_none : IsSoFar 0 []
  so_far_none = sym (behind_none (each step 0 rows))

  -- the rest, by the row that is read
  rest_is : (i : ℕ) (row : Row) → i < length rows → row ≡ get_or rows i row → drop i rows ≡ row ∷ drop (i + 1) rows
  rest_is i row low is = drop-read rows i row low is

  pub so_far_more : (i : ℕ) (ws : List Weights) (row : Row) (w : Weights) → i < length rows → row ≡ get_or rows i row → step i row ≡ Ok w → IsSoFar i ws
      → IsSoFar (i + 1) (ws ++ w ∷ [])
  so_far_more i ws row w low is e h =
      h ∙ ap (λ rs. behind ws (each step i rs)) (rest_is i row low is) ∙ behind_more step ws i row (drop (i + 1) rows) w e
      ∙ ap (λ k. behind (ws ++ w ∷ []) (each step k (drop (i + 1) rows))) (sym (add-one i))

  -- a stop at the row is the whole's
  pub so_far_stop : (i : ℕ) (ws : List Weights) (row : Row) (stop : Stop) → i < length rows → row ≡ get_or rows i row → IsSoFar i ws
      → (stop ≡ no_memory) ⊎ (step i row ≡ Err stop) → (stop ≡ no_memory) ⊎ (proofs_of premises most first rows ≡ Err stop)
  so_far_stop i ws row stop low is h (inl e) = inl e
  so_far_stop i ws row stop low is h (inr e) =
      inr (h ∙ ap (λ rs. behind ws (each step i rs)) (rest_is i row low is) ∙ behind_fault step ws i row (drop (i + 1) rows) stop e)

  pub so_far_all : (i : ℕ) (ws : List Weights) → length rows ≤ i → IsSoFar i ws → proofs_of premises most first rows ≡ Ok ws
  so_far_all i ws past h = h ∙ ap (λ rs. behind ws (each step i rs)) (drop_all i rows past) ∙ ap Ok (append-nil ws)

  -- the weights so far prove the rows so far
  abbrev pub AreProved : ℕ → List Weights → Type 0
  AreProved i ws = ProveEach premises (take i rows) ws

  pub proved_more : (i : ℕ) (ws : List Weights) (row : Row) (w : Weights) → i < length rows → row ≡ get_or rows i row → Proves w premises row
      → AreProved i ws → AreProved (i + 1) (ws ++ w ∷ [])
  proved_more i ws row w low is p h =
      subst (λ k. ProveEach premises (take k rows) (ws ++ w ∷ [])) (sym (add-one i))
      (subst (λ rs. ProveEach premises rs (ws ++ w ∷ [])) (sym (take-suc rows i row low ∙ ap (λ r. take i rows ++ r ∷ []) (sym is)))
      (AllZip-more (λ row w. Proves w premises row) (take i rows) ws row w h p))

  pub proved_all : (i : ℕ) (ws : List Weights) → length rows ≤ i → AreProved i ws → ProveEach premises rows ws
  proved_all i ws past h = subst (λ rs. ProveEach premises rs ws) (take_all i rows past) h

  -- the point of a stop at the row breaks the list's row
  pub stop_shown : (i : ℕ) (row : Row) (stop : Stop) → i < length rows → row ≡ get_or rows i row → IsBrokenRow premises row i stop
      → IsStop premises rows stop
  stop_shown i row (Broken j x) low is h =
      (omega (arith, low, h.0), subst (λ r. BreaksAt premises r x) (is ∙ sym (row_at_read rows i row low) ∙ ap (row_at rows) (sym h.0)) h.1)
  stop_shown i row (Halted halt) low is h = tt
