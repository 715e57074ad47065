-- Sums of products with weights that are not negative, over any ordered commutative ring.
use Rattle.std.proofs.Common.{ℕ, suc, List, [], ◌∷◌}
use lib.IntN.{pos}
use Rattle.pa_ring.specs.OrderedRing.{OrderedRing}
use Rattle.pa_ring.specs.RingSums.{number_at, dot}
use Rattle.pa_ring.proofs.RingTactics.{reads}
use Rattle.pa_ring.proofs.OrderTactics.{gap, by_le, ◌·◌ as nonneg_times, ◌∔◌ as nonneg_plus}

module _ (R : OrderedRing) where
  open R use {ring as laws, ◌≤◌, le_refl}
  open laws use {carrier, of}

  -- a sum of products of numbers that are not negative is not negative
  pub dot_nonneg : (ws xs : List carrier) → ((i : ℕ) → of (pos 0) ≤ number_at laws ws i) → ((i : ℕ) → of (pos 0) ≤ number_at laws xs i) →
      of (pos 0) ≤ dot laws ws xs
  dot_nonneg [] xs h k = le_refl (of (pos 0))
  dot_nonneg (w ∷ ws) [] h k = le_refl (of (pos 0))
  dot_nonneg (w ∷ ws) (x ∷ xs) h k = nonneg_plus R (nonneg_times R (h 0) (k 0)) (dot_nonneg ws xs (λ i. h (suc i)) (λ i. k (suc i)))

  -- weights that are not negative keep an order that holds number by number
  pub dot_le : (ws xs ys : List carrier) → ((i : ℕ) → of (pos 0) ≤ number_at laws ws i) → ((i : ℕ) → number_at laws xs i ≤ number_at laws ys i) →
      dot laws ws xs ≤ dot laws ws ys
  dot_le [] xs ys h k = le_refl (of (pos 0))
  dot_le (w ∷ ws) [] [] h k = le_refl (of (pos 0))
  dot_le (w ∷ ws) [] (y ∷ ys) h k = nonneg_plus R (nonneg_times R (h 0) (k 0)) (dot_nonneg ws ys (λ i. h (suc i)) (λ i. k (suc i)))
  dot_le (w ∷ ws) (x ∷ xs) [] h k =
      by_le R (w ∷ x ∷ dot laws ws xs ∷ []) (nonneg_plus R (nonneg_times R (h 0) (gap R (k 0))) (gap R (le_from ws xs (λ i. h (suc i)) (λ i. k (suc i)))))
      (search reads depth 40) tt
    where
      le_from : (ws xs : List carrier) → ((i : ℕ) → of (pos 0) ≤ number_at laws ws i) → ((i : ℕ) → number_at laws xs i ≤ of (pos 0))
          → dot laws ws xs ≤ of (pos 0)
      le_from [] xs h k = le_refl (of (pos 0))
      le_from (w ∷ ws) [] h k = le_refl (of (pos 0))
      le_from (w ∷ ws) (x ∷ xs) h k =
          by_le R (w ∷ x ∷ dot laws ws xs ∷ []) (nonneg_plus R (nonneg_times R (h 0) (gap R (k 0))) (gap R (le_from ws xs (λ i. h (suc i)) (λ i. k (suc i)))))
          (search reads depth 40) tt
  dot_le (w ∷ ws) (x ∷ xs) (y ∷ ys) h k =
      by_le R (w ∷ x ∷ y ∷ dot laws ws xs ∷ dot laws ws ys ∷ [])
      (nonneg_plus R (nonneg_times R (h 0) (gap R (k 0))) (gap R (dot_le ws xs ys (λ i. h (suc i)) (λ i. k (suc i))))) (search reads depth 40) tt
