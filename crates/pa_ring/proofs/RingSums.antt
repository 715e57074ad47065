-- Sums of products over lists that go on with zeros, over any commutative ring: linearity, exchange of sums, columns put in and taken out.
use Rattle.std.proofs.Common.{◌≡◌, ℕ, zero, suc, ◌<◌, ◌≤◌, List, [], ◌∷◌, length, refl, sym, ap, ◌∙◌, arith}
use Rattle.std.proofs.lemmas.Bool.{cases_lt}
use mathlib.Core.Path.{ap₂}
use mathlib.Core.Logic.{⊎_elim}
use lib.IntN.{pos}
use Rattle.pa_ring.specs.CommutativeRing.{CommutativeRing}
use Rattle.pa_ring.specs.Sums.{without}
use Rattle.pa_ring.specs.RingSums.{number_at, SameNumbers, dot, sum_of, times, put_at, weighted_sum, dots, column, sum_below}
use Rattle.pa_ring.proofs.Polynomials.{add-zero, zero-mul, mul-zero}
use Rattle.pa_ring.proofs.RingTactics.{by_ring, reads}

module _ (R : CommutativeRing) where
  open R use {carrier, ◌+◌, ◌*◌, of, mul_comm, zero-add}

  -- ---- the number at a place
  -- the number of a sum is the sum of the numbers
  pub number_at-sum_of : (xs ys : List carrier) (i : ℕ) → number_at R (sum_of R xs ys) i ≡ number_at R xs i + number_at R ys i
  number_at-sum_of [] ys i = sym (zero-add (number_at R ys i))
  number_at-sum_of (x ∷ xs) [] i = sym (add-zero R (number_at R (x ∷ xs) i))
  number_at-sum_of (x ∷ xs) (y ∷ ys) zero = refl
  number_at-sum_of (x ∷ xs) (y ∷ ys) (suc i) = number_at-sum_of xs ys i

  -- the number of a multiple is the multiple of the number
  pub number_at-times : (k : carrier) (xs : List carrier) (i : ℕ) → number_at R (times R k xs) i ≡ k * number_at R xs i
  number_at-times k [] i = sym (mul-zero R k)
  number_at-times k (x ∷ xs) zero = refl
  number_at-times k (x ∷ xs) (suc i) = number_at-times k xs i

  -- before the place that is taken out
  pub number_at-without_below : (k i : ℕ) (xs : List carrier) → i < k → number_at R (without k xs) i ≡ number_at R xs i
  number_at-without_below k i [] h = refl
  number_at-without_below zero i (x ∷ xs) h = absurd (omega arith)
  number_at-without_below (suc k) zero (x ∷ xs) h = refl
  number_at-without_below (suc k) (suc i) (x ∷ xs) h = number_at-without_below k i xs (omega arith)

  -- from the place that is taken out on
  pub number_at-without_above : (k i : ℕ) (xs : List carrier) → k ≤ i → number_at R (without k xs) i ≡ number_at R xs (suc i)
  number_at-without_above k i [] h = refl
  number_at-without_above zero i (x ∷ xs) h = refl
  number_at-without_above (suc k) zero (x ∷ xs) h = absurd (omega arith)
  number_at-without_above (suc k) (suc i) (x ∷ xs) h = number_at-without_above k i xs (omega arith)

  -- at the place where a number is put in
  pub number_at-put_at_here : (k : ℕ) (v : carrier) (xs : List carrier) → number_at R (put_at R k v xs) k ≡ v
  number_at-put_at_here zero v xs = refl
  number_at-put_at_here (suc k) v [] = number_at-put_at_here k v []
  number_at-put_at_here (suc k) v (x ∷ xs) = number_at-put_at_here k v xs

  -- before it
  pub number_at-put_at_below : (k i : ℕ) (v : carrier) (xs : List carrier) → i < k → number_at R (put_at R k v xs) i ≡ number_at R xs i
  number_at-put_at_below zero i v xs h = absurd (omega arith)
  number_at-put_at_below (suc k) zero v [] h = refl
  number_at-put_at_below (suc k) (suc i) v [] h = number_at-put_at_below k i v [] (omega arith)
  number_at-put_at_below (suc k) zero v (x ∷ xs) h = refl
  number_at-put_at_below (suc k) (suc i) v (x ∷ xs) h = number_at-put_at_below k i v xs (omega arith)

  -- after it
  pub number_at-put_at_above : (k i : ℕ) (v : carrier) (xs : List carrier) → k ≤ i → number_at R (put_at R k v xs) (suc i) ≡ number_at R xs i
  number_at-put_at_above zero i v xs h = refl
  number_at-put_at_above (suc k) zero v xs h = absurd (omega arith)
  number_at-put_at_above (suc k) (suc i) v [] h = number_at-put_at_above k i v [] (omega arith)
  number_at-put_at_above (suc k) (suc i) v (x ∷ xs) h = number_at-put_at_above k i v xs (omega arith)

  -- what is put in can be taken out
  pub without-put_at : (k : ℕ) (v : carrier) (xs : List carrier) → SameNumbers R (without k (put_at R k v xs)) xs
  without-put_at zero v xs i = refl
  without-put_at (suc k) v [] zero = refl
  without-put_at (suc k) v [] (suc i) = without-put_at k v [] i
  without-put_at (suc k) v (x ∷ xs) zero = refl
  without-put_at (suc k) v (x ∷ xs) (suc i) = without-put_at k v xs i

  -- what is taken out can be put back
  pub put_at-without : (k : ℕ) (xs : List carrier) → SameNumbers R (put_at R k (number_at R xs k) (without k xs)) xs
  put_at-without zero [] zero = refl
  put_at-without zero [] (suc i) = refl
  put_at-without zero (x ∷ xs) zero = refl
  put_at-without zero (x ∷ xs) (suc i) = refl
  put_at-without (suc k) [] zero = refl
  put_at-without (suc k) [] (suc i) = put_at-without k [] i
  put_at-without (suc k) (x ∷ xs) zero = refl
  put_at-without (suc k) (x ∷ xs) (suc i) = put_at-without k xs i

  -- a place goes out of a sum of lists
  pub without-sum_of : (k : ℕ) (xs ys : List carrier) → without k (sum_of R xs ys) ≡ sum_of R (without k xs) (without k ys)
  without-sum_of k [] ys = refl
  without-sum_of zero (x ∷ []) [] = refl
  without-sum_of zero (x ∷ y ∷ xs) [] = refl
  without-sum_of (suc k) (x ∷ xs) [] = refl
  without-sum_of zero (x ∷ xs) (y ∷ ys) = refl
  without-sum_of (suc k) (x ∷ xs) (y ∷ ys) = ap (λ t. (x + y) ∷ t) (without-sum_of k xs ys)

  -- a place goes out of a multiple
  pub without-times : (k : ℕ) (a : carrier) (xs : List carrier) → without k (times R a xs) ≡ times R a (without k xs)
  without-times k a [] = refl
  without-times zero a (x ∷ xs) = refl
  without-times (suc k) a (x ∷ xs) = ap (λ t. (a * x) ∷ t) (without-times k a xs)

  -- ---- lists with the same numbers
  -- sums
  pub sum_of_same : (xs ys us vs : List carrier) → SameNumbers R xs us → SameNumbers R ys vs → SameNumbers R (sum_of R xs ys) (sum_of R us vs)
  sum_of_same xs ys us vs h k i = number_at-sum_of xs ys i ∙ ap₂ ◌+◌ (h i) (k i) ∙ sym (number_at-sum_of us vs i)

  -- multiples
  pub times_same : (a : carrier) (xs ys : List carrier) → SameNumbers R xs ys → SameNumbers R (times R a xs) (times R a ys)
  times_same a xs ys h i = number_at-times a xs i ∙ ap (λ t. a * t) (h i) ∙ sym (number_at-times a ys i)

  -- with a place taken out
  pub without_same : (k : ℕ) (xs ys : List carrier) → SameNumbers R xs ys → SameNumbers R (without k xs) (without k ys)
  without_same k xs ys h i =
      ⊎_elim
      (λ below. number_at-without_below k i xs below ∙ h i ∙ sym (number_at-without_below k i ys below))
      (λ above. number_at-without_above k i xs above ∙ h (suc i) ∙ sym (number_at-without_above k i ys above))
      (cases_lt i k)

  -- ---- sums of products
  -- with the empty list
  pub dot_nil : (xs : List carrier) → dot R xs [] ≡ of (pos 0)
  dot_nil [] = refl
  dot_nil (x ∷ xs) = refl

  -- the lists change places
  pub dot_comm : (xs ys : List carrier) → dot R xs ys ≡ dot R ys xs
  dot_comm [] ys = sym (dot_nil ys)
  dot_comm (x ∷ xs) [] = refl
  dot_comm (x ∷ xs) (y ∷ ys) = ap₂ ◌+◌ (mul_comm x y) (dot_comm xs ys)

  -- a sum on the left
  pub dot-sum_of : (xs ys ps : List carrier) → dot R (sum_of R xs ys) ps ≡ dot R xs ps + dot R ys ps
  dot-sum_of [] ys ps = sym (zero-add (dot R ys ps))
  dot-sum_of (x ∷ xs) [] ps = sym (add-zero R (dot R (x ∷ xs) ps))
  dot-sum_of (x ∷ xs) (y ∷ ys) [] = sym (zero-add (of (pos 0)))
  dot-sum_of (x ∷ xs) (y ∷ ys) (p ∷ ps) =
      ap (λ t. (x + y) * p + t) (dot-sum_of xs ys ps) ∙ by_ring R (x ∷ y ∷ p ∷ dot R xs ps ∷ dot R ys ps ∷ []) (search reads depth 40) tt

  -- a factor on the left
  pub dot-times : (k : carrier) (xs ps : List carrier) → dot R (times R k xs) ps ≡ k * dot R xs ps
  dot-times k [] ps = sym (mul-zero R k)
  dot-times k (x ∷ xs) [] = sym (mul-zero R k)
  dot-times k (x ∷ xs) (p ∷ ps) = ap (λ t. k * x * p + t) (dot-times k xs ps) ∙ by_ring R (k ∷ x ∷ p ∷ dot R xs ps ∷ []) (search reads depth 40) tt

  -- a sum on the right
  pub dot-sum_of_right : (xs ps qs : List carrier) → dot R xs (sum_of R ps qs) ≡ dot R xs ps + dot R xs qs
  dot-sum_of_right xs ps qs = dot_comm xs (sum_of R ps qs) ∙ dot-sum_of ps qs xs ∙ ap₂ ◌+◌ (dot_comm ps xs) (dot_comm qs xs)

  -- a factor on the right
  pub dot-times_right : (k : carrier) (xs ps : List carrier) → dot R xs (times R k ps) ≡ k * dot R xs ps
  dot-times_right k xs ps = dot_comm xs (times R k ps) ∙ dot-times k ps xs ∙ ap (λ t. k * t) (dot_comm ps xs)

  -- a list of zeros
  pub dot_zeros : (xs ps : List carrier) → SameNumbers R xs [] → dot R xs ps ≡ of (pos 0)
  dot_zeros [] ps h = refl
  dot_zeros (x ∷ xs) [] h = refl
  dot_zeros (x ∷ xs) (p ∷ ps) h = ap₂ ◌+◌ (ap (λ t. t * p) (h 0) ∙ zero-mul R p) (dot_zeros xs ps (λ i. h (suc i))) ∙ zero-add (of (pos 0))

  -- lists with the same numbers on the left
  pub dot_same : (xs ys ps : List carrier) → SameNumbers R xs ys → dot R xs ps ≡ dot R ys ps
  dot_same [] ys ps h = sym (dot_zeros ys ps (λ i. sym (h i)))
  dot_same (x ∷ xs) [] ps h = dot_zeros (x ∷ xs) ps h
  dot_same (x ∷ xs) (y ∷ ys) [] h = refl
  dot_same (x ∷ xs) (y ∷ ys) (p ∷ ps) h = ap₂ (λ a b. a * p + b) (h 0) (dot_same xs ys ps (λ i. h (suc i)))

  -- lists with the same numbers on the right
  pub dot_same_right : (xs ps qs : List carrier) → SameNumbers R ps qs → dot R xs ps ≡ dot R xs qs
  dot_same_right xs ps qs h = dot_comm xs ps ∙ dot_same ps qs xs h ∙ dot_comm qs xs

  -- a number that is put in on the right brings one product
  pub dot-put_at : (k : ℕ) (v : carrier) (cs ps : List carrier) → dot R cs (put_at R k v ps) ≡ number_at R cs k * v + dot R (without k cs) ps
  dot-put_at k v [] ps = by_ring R (v ∷ []) (search reads depth 40) tt
  dot-put_at zero v (c ∷ cs) ps = refl
  dot-put_at (suc k) v (c ∷ cs) [] =
      ap (λ t. c * of (pos 0) + t) (dot-put_at k v cs [] ∙ ap (λ t. number_at R cs k * v + t) (dot_nil (without k cs)))
      ∙ by_ring R (c ∷ v ∷ number_at R cs k ∷ []) (search reads depth 40) tt
  dot-put_at (suc k) v (c ∷ cs) (p ∷ ps) =
      ap (λ t. c * p + t) (dot-put_at k v cs ps) ∙ by_ring R (c ∷ p ∷ v ∷ number_at R cs k ∷ dot R (without k cs) ps ∷ []) (search reads depth 40) tt

  -- one product goes out of a sum
  pub dot-without : (k : ℕ) (cs ps : List carrier) → dot R cs ps ≡ number_at R cs k * number_at R ps k + dot R (without k cs) (without k ps)
  dot-without k cs ps =
      sym (dot_same_right cs (put_at R k (number_at R ps k) (without k ps)) ps (put_at-without k ps)) ∙ dot-put_at k (number_at R ps k) cs (without k ps)

  -- ---- rows with weights
  -- the order of summation is exchanged: the weighted rows at a list, or the weights with each row at it
  pub dot-weighted_sum : (ws : List carrier) (rows : List (List carrier)) (ps : List carrier) → dot R (weighted_sum R ws rows) ps ≡ dot R ws (dots R rows ps)
  dot-weighted_sum [] rows ps = refl
  dot-weighted_sum (w ∷ ws) [] ps = refl
  dot-weighted_sum (w ∷ ws) (row ∷ rows) ps =
      dot-sum_of (times R w row) (weighted_sum R ws rows) ps ∙ ap₂ ◌+◌ (dot-times w row ps) (dot-weighted_sum ws rows ps)

  -- the number of weighted rows at a place
  pub number_at-weighted_sum : (ws : List carrier) (rows : List (List carrier)) (k : ℕ) → number_at R (weighted_sum R ws rows) k ≡ dot R ws (column R k rows)
  number_at-weighted_sum [] rows k = refl
  number_at-weighted_sum (w ∷ ws) [] k = refl
  number_at-weighted_sum (w ∷ ws) (row ∷ rows) k =
      number_at-sum_of (times R w row) (weighted_sum R ws rows) k ∙ ap₂ ◌+◌ (number_at-times w row k) (number_at-weighted_sum ws rows k)

  -- ---- sums over places
  -- the sum of sums
  pub sum_below-add : (n : ℕ) (f g : ℕ → carrier) → sum_below R n (λ i. f i + g i) ≡ sum_below R n f + sum_below R n g
  sum_below-add zero f g = sym (zero-add (of (pos 0)))
  sum_below-add (suc n) f g =
      ap (λ t. t + (f n + g n)) (sum_below-add n f g) ∙ by_ring R (f n ∷ g n ∷ sum_below R n f ∷ sum_below R n g ∷ []) (search reads depth 40) tt

  -- the sum of multiples
  pub sum_below-mul : (n : ℕ) (k : carrier) (f : ℕ → carrier) → sum_below R n (λ i. k * f i) ≡ k * sum_below R n f
  sum_below-mul zero k f = sym (mul-zero R k)
  sum_below-mul (suc n) k f = ap (λ t. t + k * f n) (sum_below-mul n k f) ∙ by_ring R (k ∷ f n ∷ sum_below R n f ∷ []) (search reads depth 40) tt

  -- the sum of zeros
  pub sum_below_zeros : (n : ℕ) → sum_below R n (λ i. of (pos 0)) ≡ of (pos 0)
  sum_below_zeros zero = refl
  sum_below_zeros (suc n) = ap (λ t. t + of (pos 0)) (sum_below_zeros n) ∙ zero-add (of (pos 0))

  -- the sum of the same numbers
  pub sum_below_same : (n : ℕ) (f g : ℕ → carrier) → ((i : ℕ) → i < n → f i ≡ g i) → sum_below R n f ≡ sum_below R n g
  sum_below_same zero f g h = refl
  sum_below_same (suc n) f g h = ap₂ ◌+◌ (sum_below_same n f g (λ i k. h i (omega arith))) (h n (omega arith))

  -- the order of summation is exchanged
  pub sum_below_exchange : (m n : ℕ) (f : ℕ → ℕ → carrier) → sum_below R m (λ i. sum_below R n (λ j. f i j)) ≡ sum_below R n (λ j. sum_below R m (λ i. f i j))
  sum_below_exchange zero n f = sym (sum_below_zeros n)
  sum_below_exchange (suc m) n f =
      ap (λ t. t + sum_below R n (λ j. f m j)) (sum_below_exchange m n f) ∙ sym (sum_below-add n (λ j. sum_below R m (λ i. f i j)) (λ j. f m j))

  -- the first number of a sum by itself
  pub sum_below_first : (n : ℕ) (f : ℕ → carrier) → sum_below R (suc n) f ≡ f 0 + sum_below R n (λ i. f (suc i))
  sum_below_first zero f = by_ring R (f 0 ∷ []) (search reads depth 40) tt
  sum_below_first (suc n) f =
      ap (λ t. t + f (suc n)) (sum_below_first n f) ∙ by_ring R (f 0 ∷ f (suc n) ∷ sum_below R n (λ i. f (suc i)) ∷ []) (search reads depth 40) tt

  -- a sum of products, place by place
  pub dot_is_sum_below : (n : ℕ) (xs ys : List carrier) → length xs ≤ n → dot R xs ys ≡ sum_below R n (λ i. number_at R xs i * number_at R ys i)
  dot_is_sum_below n [] ys h =
      sym (sum_below_zeros n) ∙ sum_below_same n (λ i. of (pos 0)) (λ i. of (pos 0) * number_at R ys i) (λ i k. sym (zero-mul R (number_at R ys i)))
  dot_is_sum_below zero (x ∷ xs) ys h = absurd (omega arith)
  dot_is_sum_below (suc n) (x ∷ xs) [] h =
      sym (sum_below_zeros (suc n))
      ∙ sum_below_same (suc n) (λ i. of (pos 0)) (λ i. number_at R (x ∷ xs) i * of (pos 0)) (λ i k. sym (mul-zero R (number_at R (x ∷ xs) i)))
  dot_is_sum_below (suc n) (x ∷ xs) (y ∷ ys) h =
      ap (λ t. x * y + t) (dot_is_sum_below n xs ys (omega arith)) ∙ sym (sum_below_first n (λ i. number_at R (x ∷ xs) i * number_at R (y ∷ ys) i))
