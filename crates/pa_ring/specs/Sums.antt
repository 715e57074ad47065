-- Lists of whole numbers that go on with zeros, and sums of products over them.
use Rattle.std.specs.Prelude.{◌≡◌, ℕ, zero, suc, List, [], ◌∷◌, ℤ, pos, ◌+ℤ◌, ◌*ℤ◌}

-- the number at a place, or 0 past the end
abbrev pub number_at : List ℤ → ℕ → ℤ
number_at [] i = pos 0
number_at (x ∷ xs) zero = x
number_at (x ∷ xs) (suc i) = number_at xs i

-- equal number by number, zeros past the ends included
abbrev pub SameNumbers : List ℤ → List ℤ → Type 0
SameNumbers xs ys = (i : ℕ) → number_at xs i ≡ number_at ys i

-- the sum of the products, number by number
abbrev pub dot : List ℤ → List ℤ → ℤ
dot [] ps = pos 0
dot (c ∷ cs) [] = pos 0
dot (c ∷ cs) (p ∷ ps) = c *ℤ p +ℤ dot cs ps

-- the sums, number by number; the longer list goes on
abbrev pub sum_of : List ℤ → List ℤ → List ℤ
sum_of [] ys = ys
sum_of (x ∷ xs) [] = x ∷ xs
sum_of (x ∷ xs) (y ∷ ys) = (x +ℤ y) ∷ sum_of xs ys

-- each number times a factor
abbrev pub times : ℤ → List ℤ → List ℤ
times k [] = []
times k (x ∷ xs) = (k *ℤ x) ∷ times k xs

-- the list with a number put in at a place, after as many zeros as are wanting
abbrev pub put_at : ℕ → ℤ → List ℤ → List ℤ
put_at zero v xs = v ∷ xs
put_at (suc k) v [] = pos 0 ∷ put_at k v []
put_at (suc k) v (x ∷ xs) = x ∷ put_at k v xs

-- the list with no number at a place: those after it move up
abbrev pub without : {A : Type 0} → ℕ → List A → List A
without k [] = []
without zero (x ∷ xs) = xs
without (suc k) (x ∷ xs) = x ∷ without k xs

-- the sum of the rows, each times its weight
abbrev pub weighted_sum : List ℤ → List (List ℤ) → List ℤ
weighted_sum [] rows = []
weighted_sum (w ∷ ws) [] = []
weighted_sum (w ∷ ws) (row ∷ rows) = sum_of (times w row) (weighted_sum ws rows)

-- the sum of products of each row with a list
abbrev pub dots : List (List ℤ) → List ℤ → List ℤ
dots [] ps = []
dots (row ∷ rows) ps = dot row ps ∷ dots rows ps

-- the number of each row at a place
abbrev pub column : ℕ → List (List ℤ) → List ℤ
column k [] = []
column k (row ∷ rows) = number_at row k ∷ column k rows

-- the sum of f i for each i below n
abbrev pub sum_below : ℕ → (ℕ → ℤ) → ℤ
sum_below zero f = pos 0
sum_below (suc n) f = sum_below n f +ℤ f n
