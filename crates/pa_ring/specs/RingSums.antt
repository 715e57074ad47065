-- The definitions of `Sums` over any commutative ring. At the ring ℤ they compute to those of `Sums`.
use Rattle.std.specs.Prelude.{◌≡◌, ℕ, zero, suc, List, [], ◌∷◌, pos}
use Rattle.pa_ring.specs.CommutativeRing.{CommutativeRing}

module _ (R : CommutativeRing) where
  open R use {carrier, ◌+◌, ◌*◌, of}

  -- the number at a place, or 0 past the end
  abbrev pub number_at : List carrier → ℕ → carrier
  number_at [] i = of (pos 0)
  number_at (x ∷ xs) zero = x
  number_at (x ∷ xs) (suc i) = number_at xs i

  -- equal number by number, zeros past the ends included
  abbrev pub SameNumbers : List carrier → List carrier → Type 0
  SameNumbers xs ys = (i : ℕ) → number_at xs i ≡ number_at ys i

  -- the sum of the products, number by number
  abbrev pub dot : List carrier → List carrier → carrier
  dot [] ps = of (pos 0)
  dot (c ∷ cs) [] = of (pos 0)
  dot (c ∷ cs) (p ∷ ps) = c * p + dot cs ps

  -- the sums, number by number; the longer list goes on
  abbrev pub sum_of : List carrier → List carrier → List carrier
  sum_of [] ys = ys
  sum_of (x ∷ xs) [] = x ∷ xs
  sum_of (x ∷ xs) (y ∷ ys) = (x + y) ∷ sum_of xs ys

  -- each number times a factor
  abbrev pub times : carrier → List carrier → List carrier
  times k [] = []
  times k (x ∷ xs) = (k * x) ∷ times k xs

  -- the list with a number put in at a place, after as many zeros as are wanting
  abbrev pub put_at : ℕ → carrier → List carrier → List carrier
  put_at zero v xs = v ∷ xs
  put_at (suc k) v [] = of (pos 0) ∷ put_at k v []
  put_at (suc k) v (x ∷ xs) = x ∷ put_at k v xs

  -- the sum of the rows, each times its weight
  abbrev pub weighted_sum : List carrier → List (List carrier) → List carrier
  weighted_sum [] rows = []
  weighted_sum (w ∷ ws) [] = []
  weighted_sum (w ∷ ws) (row ∷ rows) = sum_of (times w row) (weighted_sum ws rows)

  -- the sum of products of each row with a list
  abbrev pub dots : List (List carrier) → List carrier → List carrier
  dots [] ps = []
  dots (row ∷ rows) ps = dot row ps ∷ dots rows ps

  -- the number of each row at a place
  abbrev pub column : ℕ → List (List carrier) → List carrier
  column k [] = []
  column k (row ∷ rows) = number_at row k ∷ column k rows

  -- the sum of f i for each i below n
  abbrev pub sum_below : ℕ → (ℕ → carrier) → carrier
  sum_below zero f = of (pos 0)
  sum_below (suc n) f = sum_below n f + f n
