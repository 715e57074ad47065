-- Sums of products over lists of whole numbers that go on with zeros. Each fact is that of `RingSums` at the ring ℤ.
use Rattle.std.proofs.Common.{◌≡◌, ℕ, suc, ◌<◌, ◌≤◌, List, [], length}
use lib.IntN.{ℤ, pos, ◌+ℤ◌, ◌*ℤ◌}
use lib.Signed.{◌≤ℤ◌}
use Rattle.pa_ring.specs.Sums.{number_at, SameNumbers, dot, sum_of, times, put_at, without, weighted_sum, dots, column, sum_below}
use Rattle.pa_ring.proofs.IntegerTactics.{ℤ_ring, ℤ_order}
use Rattle.pa_ring.proofs.RingSums as rings
use Rattle.pa_ring.proofs.OrderSums as orders

-- ---- the number at a place
-- the number of a sum is the sum of the numbers
pub number_at-sum_of : (xs ys : List ℤ) (i : ℕ) → number_at (sum_of xs ys) i ≡ number_at xs i +ℤ number_at ys i
number_at-sum_of xs ys i = rings.number_at-sum_of ℤ_ring xs ys i

-- the number of a multiple is the multiple of the number
pub number_at-times : (k : ℤ) (xs : List ℤ) (i : ℕ) → number_at (times k xs) i ≡ k *ℤ number_at xs i
number_at-times k xs i = rings.number_at-times ℤ_ring k xs i

-- before the place that is taken out
pub number_at-without_below : (k i : ℕ) (xs : List ℤ) → i < k → number_at (without k xs) i ≡ number_at xs i
number_at-without_below k i xs h = rings.number_at-without_below ℤ_ring k i xs h

-- from the place that is taken out on
pub number_at-without_above : (k i : ℕ) (xs : List ℤ) → k ≤ i → number_at (without k xs) i ≡ number_at xs (suc i)
number_at-without_above k i xs h = rings.number_at-without_above ℤ_ring k i xs h

-- at the place where a number is put in
pub number_at-put_at_here : (k : ℕ) (v : ℤ) (xs : List ℤ) → number_at (put_at k v xs) k ≡ v
number_at-put_at_here k v xs = rings.number_at-put_at_here ℤ_ring k v xs

-- before it
pub number_at-put_at_below : (k i : ℕ) (v : ℤ) (xs : List ℤ) → i < k → number_at (put_at k v xs) i ≡ number_at xs i
number_at-put_at_below k i v xs h = rings.number_at-put_at_below ℤ_ring k i v xs h

-- after it
pub number_at-put_at_above : (k i : ℕ) (v : ℤ) (xs : List ℤ) → k ≤ i → number_at (put_at k v xs) (suc i) ≡ number_at xs i
number_at-put_at_above k i v xs h = rings.number_at-put_at_above ℤ_ring k i v xs h

-- what is put in can be taken out
pub without-put_at : (k : ℕ) (v : ℤ) (xs : List ℤ) → SameNumbers (without k (put_at k v xs)) xs
without-put_at k v xs = rings.without-put_at ℤ_ring k v xs

-- what is taken out can be put back
pub put_at-without : (k : ℕ) (xs : List ℤ) → SameNumbers (put_at k (number_at xs k) (without k xs)) xs
put_at-without k xs = rings.put_at-without ℤ_ring k xs

-- a place goes out of a sum of lists
pub without-sum_of : (k : ℕ) (xs ys : List ℤ) → without k (sum_of xs ys) ≡ sum_of (without k xs) (without k ys)
without-sum_of k xs ys = rings.without-sum_of ℤ_ring k xs ys

-- a place goes out of a multiple
pub without-times : (k : ℕ) (a : ℤ) (xs : List ℤ) → without k (times a xs) ≡ times a (without k xs)
without-times k a xs = rings.without-times ℤ_ring k a xs

-- ---- lists with the same numbers
-- sums
pub sum_of_same : (xs ys us vs : List ℤ) → SameNumbers xs us → SameNumbers ys vs → SameNumbers (sum_of xs ys) (sum_of us vs)
sum_of_same xs ys us vs h k = rings.sum_of_same ℤ_ring xs ys us vs h k

-- multiples
pub times_same : (a : ℤ) (xs ys : List ℤ) → SameNumbers xs ys → SameNumbers (times a xs) (times a ys)
times_same a xs ys h = rings.times_same ℤ_ring a xs ys h

-- with a place taken out
pub without_same : (k : ℕ) (xs ys : List ℤ) → SameNumbers xs ys → SameNumbers (without k xs) (without k ys)
without_same k xs ys h = rings.without_same ℤ_ring k xs ys h

-- ---- sums of products
-- with the empty list
pub dot_nil : (xs : List ℤ) → dot xs [] ≡ pos 0
dot_nil xs = rings.dot_nil ℤ_ring xs

-- the lists change places
pub dot_comm : (xs ys : List ℤ) → dot xs ys ≡ dot ys xs
dot_comm xs ys = rings.dot_comm ℤ_ring xs ys

-- a sum on the left
pub dot-sum_of : (xs ys ps : List ℤ) → dot (sum_of xs ys) ps ≡ dot xs ps +ℤ dot ys ps
dot-sum_of xs ys ps = rings.dot-sum_of ℤ_ring xs ys ps

-- a factor on the left
pub dot-times : (k : ℤ) (xs ps : List ℤ) → dot (times k xs) ps ≡ k *ℤ dot xs ps
dot-times k xs ps = rings.dot-times ℤ_ring k xs ps

-- a sum on the right
pub dot-sum_of_right : (xs ps qs : List ℤ) → dot xs (sum_of ps qs) ≡ dot xs ps +ℤ dot xs qs
dot-sum_of_right xs ps qs = rings.dot-sum_of_right ℤ_ring xs ps qs

-- a factor on the right
pub dot-times_right : (k : ℤ) (xs ps : List ℤ) → dot xs (times k ps) ≡ k *ℤ dot xs ps
dot-times_right k xs ps = rings.dot-times_right ℤ_ring k xs ps

-- a list of zeros
pub dot_zeros : (xs ps : List ℤ) → SameNumbers xs [] → dot xs ps ≡ pos 0
dot_zeros xs ps h = rings.dot_zeros ℤ_ring xs ps h

-- lists with the same numbers on the left
pub dot_same : (xs ys ps : List ℤ) → SameNumbers xs ys → dot xs ps ≡ dot ys ps
dot_same xs ys ps h = rings.dot_same ℤ_ring xs ys ps h

-- lists with the same numbers on the right
pub dot_same_right : (xs ps qs : List ℤ) → SameNumbers ps qs → dot xs ps ≡ dot xs qs
dot_same_right xs ps qs h = rings.dot_same_right ℤ_ring xs ps qs h

-- a number that is put in on the right brings one product
pub dot-put_at : (k : ℕ) (v : ℤ) (cs ps : List ℤ) → dot cs (put_at k v ps) ≡ number_at cs k *ℤ v +ℤ dot (without k cs) ps
dot-put_at k v cs ps = rings.dot-put_at ℤ_ring k v cs ps

-- one product goes out of a sum
pub dot-without : (k : ℕ) (cs ps : List ℤ) → dot cs ps ≡ number_at cs k *ℤ number_at ps k +ℤ dot (without k cs) (without k ps)
dot-without k cs ps = rings.dot-without ℤ_ring k cs ps

-- ---- rows with weights
-- the order of summation is exchanged: the weighted rows at a list, or the weights with each row at it
pub dot-weighted_sum : (ws : List ℤ) (rows : List (List ℤ)) (ps : List ℤ) → dot (weighted_sum ws rows) ps ≡ dot ws (dots rows ps)
dot-weighted_sum ws rows ps = rings.dot-weighted_sum ℤ_ring ws rows ps

-- the number of weighted rows at a place
pub number_at-weighted_sum : (ws : List ℤ) (rows : List (List ℤ)) (k : ℕ) → number_at (weighted_sum ws rows) k ≡ dot ws (column k rows)
number_at-weighted_sum ws rows k = rings.number_at-weighted_sum ℤ_ring ws rows k

-- ---- sums over places
-- the sum of sums
pub sum_below-add : (n : ℕ) (f g : ℕ → ℤ) → sum_below n (λ i. f i +ℤ g i) ≡ sum_below n f +ℤ sum_below n g
sum_below-add n f g = rings.sum_below-add ℤ_ring n f g

-- the sum of multiples
pub sum_below-mul : (n : ℕ) (k : ℤ) (f : ℕ → ℤ) → sum_below n (λ i. k *ℤ f i) ≡ k *ℤ sum_below n f
sum_below-mul n k f = rings.sum_below-mul ℤ_ring n k f

-- the sum of zeros
pub sum_below_zeros : (n : ℕ) → sum_below n (λ i. pos 0) ≡ pos 0
sum_below_zeros n = rings.sum_below_zeros ℤ_ring n

-- the sum of the same numbers
pub sum_below_same : (n : ℕ) (f g : ℕ → ℤ) → ((i : ℕ) → i < n → f i ≡ g i) → sum_below n f ≡ sum_below n g
sum_below_same n f g h = rings.sum_below_same ℤ_ring n f g h

-- the order of summation is exchanged
pub sum_below_exchange : (m n : ℕ) (f : ℕ → ℕ → ℤ) → sum_below m (λ i. sum_below n (λ j. f i j)) ≡ sum_below n (λ j. sum_below m (λ i. f i j))
sum_below_exchange m n f = rings.sum_below_exchange ℤ_ring m n f

-- the first number of a sum by itself
pub sum_below_first : (n : ℕ) (f : ℕ → ℤ) → sum_below (suc n) f ≡ f 0 +ℤ sum_below n (λ i. f (suc i))
sum_below_first n f = rings.sum_below_first ℤ_ring n f

-- a sum of products, place by place
pub dot_is_sum_below : (n : ℕ) (xs ys : List ℤ) → length xs ≤ n → dot xs ys ≡ sum_below n (λ i. number_at xs i *ℤ number_at ys i)
dot_is_sum_below n xs ys h = rings.dot_is_sum_below ℤ_ring n xs ys h

-- ---- weights that are not negative
-- a sum of products of numbers that are not negative is not negative
pub dot_nonneg : (ws xs : List ℤ) → ((i : ℕ) → pos 0 ≤ℤ number_at ws i) → ((i : ℕ) → pos 0 ≤ℤ number_at xs i) → pos 0 ≤ℤ dot ws xs
dot_nonneg ws xs h k = orders.dot_nonneg ℤ_order ws xs h k

-- weights that are not negative keep an order that holds number by number
pub dot_le : (ws xs ys : List ℤ) → ((i : ℕ) → pos 0 ≤ℤ number_at ws i) → ((i : ℕ) → number_at xs i ≤ℤ number_at ys i) → dot ws xs ≤ℤ dot ws ys
dot_le ws xs ys h k = orders.dot_le ℤ_order ws xs ys h k
