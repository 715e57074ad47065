-- Bland's rule: within a phase no set of basic columns comes twice.
use Rattle.std.proofs.Common.{◌≡◌, ℕ, zero, suc, ◌<◌, ◌≤◌, ◌-◌, ◌⊎◌, inl, inr, refl, sym, ap, subst, ◌∙◌, arith, pos, [], ◌∷◌}
use Rattle.pa_math.specs.Rational.{ℚ, whole, ◌-ℚ◌, ◌*ℚ◌, neg_ℚ}
use Rattle.pa_math.specs.RationalOrder.{◌≤ℚ◌, ◌<ℚ◌}
use Rattle.pa_math.proofs.RationalOrders.{≤ℚ_refl, ≤ℚ_antisym, ≤ℚ_trans, <ℚ-≤ℚ, <ℚ_irrefl, lt_or_le_ℚ, lt_not_le_ℚ}
use Rattle.pa_math.proofs.Reciprocals.{zero_or_not}
use Rattle.pa_math.proofs.RationalTactics.{by_equations, by_le, by_lt, null, ◌⋆◌, ◌⊞◌, gap, rise, weak, ◌·◌, ◌⊙◌, ◌⊕◌, reads}
use Rattle.pa_replay.proofs.Sums.{total, total-*ℚ, total_nonneg}
use Rattle.pa_replay.proofs.Steps.{Cells, IsPivot, line_before}
use Rattle.pa_replay.proofs.Alike.{IsAlike, IsForm, IsIn, HaveSame, same_or_not, alike_same, alike_back, alike_on, alike_pivot, basic_once, same_cost, cost_at}

-- ---- places below a number
below_suc : (s z : ℕ) → s < suc z → (s < z) ⊎ (s ≡ z)
below_suc s z h = search arith

-- a property that is told of each place holds somewhere below z, or nowhere
pub find : (P : ℕ → Type 0) → ((s : ℕ) → P s ⊎ (P s → ⊥)) → (z : ℕ) → ((s : ℕ) × (s < z) × P s) ⊎ ((s : ℕ) → s < z → P s → ⊥)
find P test zero = inr (λ s low h. absurd (omega (arith, low)))
find P test (suc z) = by_last (test z) (find P test z)
  where
    by_place : ((s : ℕ) → s < z → P s → ⊥) → (P z → ⊥) → (s : ℕ) → P s → (s < z) ⊎ (s ≡ z) → ⊥
    by_place none out s h (inl before) = none s before h
    by_place none out s h (inr e) = out (subst P e h)

    by_last : P z ⊎ (P z → ⊥) → ((s : ℕ) × (s < z) × P s) ⊎ ((s : ℕ) → s < z → P s → ⊥) → ((s : ℕ) × (s < suc z) × P s) ⊎ ((s : ℕ) → s < suc z → P s → ⊥)
    by_last (inl h) rest = inl (z, omega arith, h)
    by_last (inr out) (inl (s, low, h)) = inl (s, omega (arith, low), h)
    by_last (inr out) (inr none) = inr (λ s low h. by_place none out s h (below_suc s z low))

-- a place of the greatest of the values up to z
greatest_upto : (c : ℕ → ℕ) (z : ℕ) → (s : ℕ) × (s < suc z) × ((r : ℕ) → r < suc z → c r ≤ c s)
greatest_upto c zero = (0, omega arith, λ r low. (let e : 0 ≡ r = omega (arith, low) in subst (λ r. c r ≤ c 0) e (omega arith)))
greatest_upto c (suc z) = by_rest (greatest_upto c z)
  where
    below_or_not : (i k : ℕ) → (i < k) ⊎ (k ≤ i)
    below_or_not i k = search arith

    by_place : (s : ℕ) → ((r : ℕ) → r < suc z → c r ≤ c s) → c (suc z) ≤ c s → (r : ℕ) → (r < suc z) ⊎ (r ≡ suc z) → c r ≤ c s
    by_place s up last r (inl before) = up r before
    by_place s up last r (inr e) = subst (λ r. c r ≤ c s) (sym e) last

    by_order : (s : ℕ) → s < suc z → ((r : ℕ) → r < suc z → c r ≤ c s) → (c s < c (suc z)) ⊎ (c (suc z) ≤ c s)
        → (s : ℕ) × (s < suc (suc z)) × ((r : ℕ) → r < suc (suc z) → c r ≤ c s)
    by_order s low up (inl more) = (
      suc z,
      omega arith,
      λ r below. by_place (suc z) (λ r before. (let h = up r before in omega (arith, h, more))) (omega arith) r (below_suc r (suc z) below),
    )
    by_order s low up (inr less) = (s, omega (arith, low), λ r below. by_place s up less r (below_suc r (suc z) below))

    by_rest : (s : ℕ) × (s < suc z) × ((r : ℕ) → r < suc z → c r ≤ c s) → (s : ℕ) × (s < suc (suc z)) × ((r : ℕ) → r < suc (suc z) → c r ≤ c s)
    by_rest (s, low, up) = by_order s low up (below_or_not (c s) (c (suc z)))

greatest : (c : ℕ → ℕ) (z : ℕ) → 0 < z → (s : ℕ) × (s < z) × ((r : ℕ) → r < z → c r ≤ c s)
greatest c z some = (let (s, low, up) = greatest_upto c (z - 1) in (s, omega (arith, low, some), λ r below. up r (omega (arith, below))))

-- a property that each step keeps is kept, forward and back
order_split : (i j : ℕ) → i ≤ suc j → (i ≤ j) ⊎ (i ≡ suc j)
order_split i j h = search arith

pub walk : (P : ℕ → Type 0) (z : ℕ) → ((s : ℕ) → s < z → P s → P (suc s)) → (i j : ℕ) → i ≤ j → j ≤ z → P i → P j
walk P z step i zero le end h = subst P (omega (arith, le)) h
walk P z step i (suc j) le end h = by_order (order_split i j le) (λ before. walk P z step i j before (omega (arith, end)) h)
  where
    by_order : (i ≤ j) ⊎ (i ≡ suc j) → (i ≤ j → P j) → P (suc j)
    by_order (inl before) rest = step j (omega (arith, end)) (rest before)
    by_order (inr e) rest = subst P e h

pub walk_back : (P : ℕ → Type 0) (z : ℕ) → ((s : ℕ) → s < z → P (suc s) → P s) → (i j : ℕ) → i ≤ j → j ≤ z → P j → P i
walk_back P z step i zero le end h = subst P (omega (arith, le)) h
walk_back P z step i (suc j) le end h =
    by_order (order_split i j le) (λ before. walk_back P z step i j before (omega (arith, end)) (step j (omega (arith, end)) h))
  where
    by_order : (i ≤ j) ⊎ (i ≡ suc j) → (i ≤ j → P i) → P i
    by_order (inl before) rest = rest before
    by_order (inr e) rest = subst P (sym e) h

-- ---- pivots one after another
-- one pivot, with the basic columns before and after it
pub record IsTurn (n m : ℕ) (t u : Cells) (b d : ℕ → ℕ) (l c : ℕ) : Type 0 where
  pub pivot : IsPivot t u l c
  pub line : l < n
  pub column : c < m
  pub here : d l ≡ c
  pub there : (k : ℕ) → (k ≡ l → ⊥) → d k ≡ b k

-- a pivot of the phase by cost row q: no column before the entering one is negative, and among the lines with the ratio 0 the one whose
-- basic column is least leaves
pub record IsBland (n v q : ℕ) (t : Cells) (b : ℕ → ℕ) (l c : ℕ) : Type 0 where
  pub falls : t q c <ℚ whole (pos 0)
  pub first : (j : ℕ) → j < c → whole (pos 0) ≤ℚ t q j
  pub up : whole (pos 0) <ℚ t l c
  pub least : (k : ℕ) → k < n → whole (pos 0) <ℚ t k c → t k v ≡ whole (pos 0) → b l ≤ b k

-- z pivots, with tableau s and its basic columns before pivot s
pub record IsTrail (n m v z : ℕ) (t : ℕ → Cells) (b : ℕ → ℕ → ℕ) (l c : ℕ → ℕ) : Type 0 where
  pub turns : (s : ℕ) → s < z → IsTurn n m (t s) (t (suc s)) (b s) (b (suc s)) (l s) (c s)
  pub forms : (s : ℕ) → s ≤ z → IsForm n v (t s) (b s)
  pub values : (s : ℕ) → s ≤ z → (k : ℕ) → k < n → whole (pos 0) ≤ℚ t s k v

-- a column that does not leave stays, and one that does not enter was there
pub stays_in : (n m x : ℕ) (t u : Cells) (b d : ℕ → ℕ) (l c : ℕ) → IsTurn n m t u b d l c → (b l ≡ x → ⊥) → IsIn n b x → IsIn n d x
stays_in n m x t u b d l c p out (k, low, e) = (k, low, p.there k (λ same. out (ap b (sym same) ∙ e)) ∙ e)

pub was_in : (n m x : ℕ) (t u : Cells) (b d : ℕ → ℕ) (l c : ℕ) → IsTurn n m t u b d l c → (c ≡ x → ⊥) → IsIn n d x → IsIn n b x
was_in n m x t u b d l c p out (k, low, e) = (let apart : k ≡ l → ⊥ = λ same. out (sym p.here ∙ ap d (sym same) ∙ e) in (k, low, sym (p.there k apart) ∙ e))

eq_or_not : (c : ℕ → ℕ) (x s : ℕ) → (c s ≡ x) ⊎ (c s ≡ x → ⊥)
eq_or_not c x s = same_or_not (c s) x

-- where the last set of basic columns is the first one, a column that is basic here and not there enters at some pivot
pub enters : (n m v z : ℕ) (t : ℕ → Cells) (b : ℕ → ℕ → ℕ) (l c : ℕ → ℕ) → IsTrail n m v z t b l c → HaveSame n (b 0) (b z) → (x i j : ℕ) → i ≤ z → j ≤ z
    → IsIn n (b i) x → (IsIn n (b j) x → ⊥) → (s : ℕ) × (s < z) × (c s ≡ x)
enters n m v z t b l c trail same x i j hi hj there away = by_search (find (λ s. c s ≡ x) (eq_or_not c x) z)
  where
    by_search : ((s : ℕ) × (s < z) × (c s ≡ x)) ⊎ ((s : ℕ) → s < z → c s ≡ x → ⊥) → (s : ℕ) × (s < z) × (c s ≡ x)
    by_search (inl found) = found
    by_search (inr none) =
        let back : (s : ℕ) → s < z → IsIn n (b (suc s)) x → IsIn n (b s) x =
        λ s low. was_in n m x (t s) (t (suc s)) (b s) (b (suc s)) (l s) (c s) (trail.turns s low) (none s low) in
        absurd
        (away (walk_back (λ s. IsIn n (b s) x) z back j z hj (omega arith) (same.0 x (walk_back (λ s. IsIn n (b s) x) z back 0 i (omega arith) hi there))))

-- and leaves at some pivot
pub leaves : (n m v z : ℕ) (t : ℕ → Cells) (b : ℕ → ℕ → ℕ) (l c : ℕ → ℕ) → IsTrail n m v z t b l c → HaveSame n (b 0) (b z) → (x i j : ℕ) → i ≤ z → j ≤ z
    → IsIn n (b i) x → (IsIn n (b j) x → ⊥) → (s : ℕ) × (s < z) × (b s (l s) ≡ x)
leaves n m v z t b l c trail same x i j hi hj there away = by_search (find (λ s. b s (l s) ≡ x) (eq_or_not (λ s. b s (l s)) x) z)
  where
    by_search : ((s : ℕ) × (s < z) × (b s (l s) ≡ x)) ⊎ ((s : ℕ) → s < z → b s (l s) ≡ x → ⊥) → (s : ℕ) × (s < z) × (b s (l s) ≡ x)
    by_search (inl found) = found
    by_search (inr none) =
        let on : (s : ℕ) → s < z → IsIn n (b s) x → IsIn n (b (suc s)) x =
        λ s low. stays_in n m x (t s) (t (suc s)) (b s) (b (suc s)) (l s) (c s) (trail.turns s low) (none s low) in
        absurd (away (walk (λ s. IsIn n (b s) x) z on 0 j (omega arith) hj (same.1 x (walk (λ s. IsIn n (b s) x) z on i z hi (omega arith) there))))

-- all tableaux of a trail have the same solutions
pub trail_alike : (n m v q z : ℕ) (t : ℕ → Cells) (b : ℕ → ℕ → ℕ) (l c : ℕ → ℕ) → n ≤ q → IsTrail n m v z t b l c → (i j : ℕ) → i ≤ z → j ≤ z
    → IsAlike n (suc v) q (t i) (t j)
trail_alike n m v q z t b l c above trail i j hi hj =
    alike_on n (suc v) q (t i) (t 0) (t j) (alike_back n (suc v) q (t 0) (t i) (from_first i hi)) (from_first j hj)
  where
    step : (s : ℕ) → s < z → IsAlike n (suc v) q (t 0) (t s) → IsAlike n (suc v) q (t 0) (t (suc s))
    step s low h =
        alike_on n (suc v) q (t 0) (t s) (t (suc s)) h
        (alike_pivot n (suc v) q (t s) (t (suc s)) (l s) (c s) (trail.turns s low).line above (trail.turns s low).pivot)

    from_first : (s : ℕ) → s ≤ z → IsAlike n (suc v) q (t 0) (t s)
    from_first s end = walk (λ s. IsAlike n (suc v) q (t 0) (t s)) z step 0 s (omega arith) end (alike_same n (suc v) q (t 0))

-- a column that is not 0 in a cost row is not basic
pub not_basic : (n v q : ℕ) (t : Cells) (b : ℕ → ℕ) (x : ℕ) → n ≤ q → IsForm n v t b → (t q x ≡ whole (pos 0) → ⊥) → IsIn n b x → ⊥
not_basic n v q t b x above f nonzero (k, low, e) = nonzero (ap (t q) (sym e) ∙ (f.basics k low).zeros q (λ same. absurd (omega (arith, same))))

pub nonzero_below : (x : ℚ) → x <ℚ whole (pos 0) → x ≡ whole (pos 0) → ⊥
nonzero_below x low e = <ℚ_irrefl (subst (λ y. y <ℚ whole (pos 0)) e low)

-- ---- one pivot that leaves the cost as it is
-- the cost's value column never falls
cost_rises : (n m v q : ℕ) (t u : Cells) (b d : ℕ → ℕ) (l c : ℕ) → n ≤ q → IsTurn n m t u b d l c → IsBland n v q t b l c → whole (pos 0) ≤ℚ u l v
    → t q v ≤ℚ u q v
cost_rises n m v q t u b d l c above p bl value =
    subst (λ x. t q v ≤ℚ x) (sym (p.pivot.reduced q v (λ e. absurd (let h = p.line in omega (arith, e, h)))))
    (by_le (t q v ∷ t q c ∷ u l v ∷ []) (gap (<ℚ-≤ℚ bl.falls) · value) (search reads depth 40) tt)

-- where it stays, the pivot line has the value 0
stays_zero : (n m v q : ℕ) (t u : Cells) (b d : ℕ → ℕ) (l c : ℕ) → n ≤ q → IsTurn n m t u b d l c → IsBland n v q t b l c → whole (pos 0) ≤ℚ u l v
    → u q v ≡ t q v → u l v ≡ whole (pos 0)
stays_zero n m v q t u b d l c above p bl value level = by_order (lt_or_le_ℚ (whole (pos 0)) (u l v))
  where
    by_order : (whole (pos 0) <ℚ u l v) ⊎ (u l v ≤ℚ whole (pos 0)) → u l v ≡ whole (pos 0)
    by_order (inl more) =
        let up : t q v <ℚ (t q v -ℚ t q c *ℚ u l v) = by_lt (t q v ∷ t q c ∷ u l v ∷ []) (rise bl.falls ⊙ more) (search reads depth 40) tt in
        absurd (<ℚ_irrefl (subst (λ x. t q v <ℚ x) (sym (p.pivot.reduced q v (λ e. absurd (let h = p.line in omega (arith, e, h)))) ∙ level) up))
    by_order (inr less) = ≤ℚ_antisym less value

-- the lines of a basic column have the value 0
abbrev HasZero : ℕ → ℕ → Cells → (ℕ → ℕ) → ℕ → Type 0
HasZero n v t b x = (k : ℕ) → k < n → b k ≡ x → t k v ≡ whole (pos 0)

zero_on : (n m v x : ℕ) (t u : Cells) (b d : ℕ → ℕ) (l c : ℕ) → IsTurn n m t u b d l c → u l v ≡ whole (pos 0) → HasZero n v t b x → HasZero n v u d x
zero_on n m v x t u b d l c p none h k low e = by_line (same_or_not k l)
  where
    by_line : (k ≡ l) ⊎ (k ≡ l → ⊥) → u k v ≡ whole (pos 0)
    by_line (inl same) = ap (λ k. u k v) same ∙ none
    by_line (inr apart) =
        let before : t k v ≡ whole (pos 0) = h k low (sym (p.there k apart) ∙ e) in
        by_equations (u k v ∷ t k v ∷ t k c ∷ u l v ∷ []) (null (p.pivot.reduced k v apart) ⊞ null before ⊞ neg_ℚ (t k c) ⋆ null none)
        (search reads depth 40) tt

zero_back : (n m v x : ℕ) (t u : Cells) (b d : ℕ → ℕ) (l c : ℕ) → IsTurn n m t u b d l c → u l v ≡ whole (pos 0) → HasZero n v u d x → HasZero n v t b x
zero_back n m v x t u b d l c p none h k low e = by_line (same_or_not k l)
  where
    by_line : (k ≡ l) ⊎ (k ≡ l → ⊥) → t k v ≡ whole (pos 0)
    by_line (inl same) =
        ap (λ k. t k v) same ∙ line_before t u l c p.pivot v
        ∙ by_equations (t l c ∷ u l v ∷ []) (t l c ⋆ null none) (search reads depth 40) tt
    by_line (inr apart) =
        let after : u k v ≡ whole (pos 0) = h k low (p.there k apart ∙ e) in
        by_equations (u k v ∷ t k v ∷ t k c ∷ u l v ∷ []) (null after ⊞ t k c ⋆ null none ⊞ neg_ℚ (whole (pos 1)) ⋆ null (p.pivot.reduced k v apart))
        (search reads depth 40) tt

contradicts : (total high low : ℚ) → whole (pos 0) ≤ℚ high → low <ℚ whole (pos 0) → total -ℚ high ≡ neg_ℚ low
    → whole (pos 0) ≤ℚ (neg_ℚ (whole (pos 1)) *ℚ total) → ⊥
contradicts total high low up down sum under =
    let is : total ≡ high -ℚ low = by_equations (total ∷ high ∷ low ∷ []) (null sum) (search reads depth 40) tt in
    let positive : whole (pos 0) <ℚ total = subst (λ x. whole (pos 0) <ℚ x) (sym is) (by_lt (high ∷ low ∷ []) (rise down ⊕ up) (search reads depth 40) tt) in
    lt_not_le_ℚ positive (by_le (total ∷ []) under (search reads depth 40) tt)

-- ---- Bland's argument
-- In z pivots of one phase, at least one, the set of basic columns does not come back.
pub no_cycle : (n m v q z : ℕ) (t : ℕ → Cells) (b : ℕ → ℕ → ℕ) (l c : ℕ → ℕ) → n ≤ q → m ≤ v → 0 < z → IsTrail n m v z t b l c
    → ((s : ℕ) → s < z → IsBland n v q (t s) (b s) (l s) (c s)) → HaveSame n (b 0) (b z) → ⊥
no_cycle n m v q z t b l c above wide some trail bl same =
    let (e, e_low, top) = greatest c z some in
    let out : IsIn n (b e) (c e) → ⊥ =
    not_basic n v q (t e) (b e) (c e) above (trail.forms e (omega (arith, e_low))) (nonzero_below (t e q (c e)) (bl e e_low).falls) in
    let entered : IsIn n (b (suc e)) (c e) = (l e, (trail.turns e e_low).line, (trail.turns e e_low).here) in
    let (p, p_low, left) = leaves n m v z t b l c trail same (c e) (suc e) e (omega (arith, e_low)) (omega (arith, e_low)) entered out in
    final e e_low top p p_low left
  where
    -- the cost's value column has the same number all along
    level : (s : ℕ) → s < z → t (suc s) q v ≡ t s q v
    level s low =
        let step : (i r : ℕ) → r < z → t i q v ≤ℚ t r q v → t i q v ≤ℚ t (suc r) q v =
        λ i r below h. ≤ℚ_trans h (cost_rises n m v q (t r) (t (suc r)) (b r) (b (suc r)) (l r) (c r) above (trail.turns r below) (bl r below)
        (trail.values (suc r) (omega (arith, below)) (l r) (trail.turns r below).line)) in
        let rises : (i j : ℕ) → i ≤ j → j ≤ z → t i q v ≤ℚ t j q v = λ i j le end. walk (λ r. t i q v ≤ℚ t r q v) z (step i) i j le end (≤ℚ_refl (t i q v)) in
        let ends : t 0 q v ≡ t z q v =
        same_cost n v q (t 0) (t z) (b 0) (b z) above (trail_alike n m v q z t b l c above trail 0 z (omega arith) (omega arith)) (trail.forms 0 (omega arith))
        (trail.forms z (omega arith)) same.0 v (omega arith) in
        ≤ℚ_antisym
        (≤ℚ_trans (rises (suc s) z (omega (arith, low)) (omega arith)) (subst (λ x. x ≤ℚ t s q v) ends (rises 0 s (omega arith) (omega (arith, low)))))
        (rises s (suc s) (omega arith) (omega (arith, low)))

    none : (s : ℕ) → s < z → t (suc s) (l s) v ≡ whole (pos 0)
    none s low =
        stays_zero n m v q (t s) (t (suc s)) (b s) (b (suc s)) (l s) (c s) above (trail.turns s low) (bl s low)
        (trail.values (suc s) (omega (arith, low)) (l s) (trail.turns s low).line) (level s low)

    below_or_not : (i k : ℕ) → (i ≤ k) ⊎ (k ≤ i)
    below_or_not i k = search arith

    -- a column that enters somewhere has the value 0 wherever it is basic
    zero_all : (x s p : ℕ) → s < z → p ≤ z → c s ≡ x → HasZero n v (t p) (b p) x
    zero_all x s p low end e = by_order (below_or_not s p)
      where
        first : HasZero n v (t s) (b s) x
        first k below same =
            absurd (not_basic n v q (t s) (b s) (c s) above (trail.forms s (omega (arith, low))) (nonzero_below (t s q (c s)) (bl s low).falls)
            (k, below, same ∙ sym e))

        by_order : (s ≤ p) ⊎ (p ≤ s) → HasZero n v (t p) (b p) x
        by_order (inl on) =
            walk (λ s. HasZero n v (t s) (b s) x) z
            (λ s low h. zero_on n m v x (t s) (t (suc s)) (b s) (b (suc s)) (l s) (c s) (trail.turns s low) (none s low) h) s p on end first
        by_order (inr back) =
            walk_back (λ s. HasZero n v (t s) (b s) x) z
            (λ s low h. zero_back n m v x (t s) (t (suc s)) (b s) (b (suc s)) (l s) (c s) (trail.turns s low) (none s low) h) p s back
            (omega (arith, low)) first

    -- at the pivot p where the greatest entering column leaves, against the cost row at the pivot e where it enters
    term : (e p k : ℕ) → e < z → p < z → k < n → ((r : ℕ) → r < z → c r ≤ c e) → b p (l p) ≡ c e → (t p k (c p) *ℚ t e q (b p k)) ≤ℚ whole (pos 0)
    term e p k e_low p_low low top left = by_column (same_or_not (b p k) (c e))
      where
        by_sign : b p k < c e → (s : ℕ) → s < z → c s ≡ b p k → (whole (pos 0) <ℚ t p k (c p)) ⊎ (t p k (c p) ≤ℚ whole (pos 0))
            → (t p k (c p) *ℚ t e q (b p k)) ≤ℚ whole (pos 0)
        by_sign less s s_low is (inl more) =
            let first : b p (l p) ≤ b p k = (bl p p_low).least k low more (zero_all (b p k) s p s_low (omega (arith, p_low)) is k low refl) in
            absurd (omega (arith, first, less, left))
        by_sign less s s_low is (inr under) =
            by_le (t p k (c p) ∷ t e q (b p k) ∷ []) (gap under · (bl e e_low).first (b p k) less) (search reads depth 40) tt

        by_zero : (b p k ≡ c e → ⊥) → (t e q (b p k) ≡ whole (pos 0)) ⊎ (t e q (b p k) ≡ whole (pos 0) → ⊥) → (t p k (c p) *ℚ t e q (b p k)) ≤ℚ whole (pos 0)
        by_zero apart (inl nothing) =
            subst (λ x. x ≤ℚ whole (pos 0)) (sym (by_equations (t p k (c p) ∷ t e q (b p k) ∷ []) (t p k (c p) ⋆ null nothing) (search reads depth 40) tt))
            (≤ℚ_refl (whole (pos 0)))
        by_zero apart (inr nonzero) =
            let away : IsIn n (b e) (b p k) → ⊥ = not_basic n v q (t e) (b e) (b p k) above (trail.forms e (omega (arith, e_low))) nonzero in
            let (s, s_low, is) = enters n m v z t b l c trail same (b p k) p e (omega (arith, p_low)) (omega (arith, e_low)) (k, low, refl) away in
            let bound : c s ≤ c e = top s s_low in
            by_sign (omega (arith, bound, is, apart)) s s_low is (lt_or_le_ℚ (whole (pos 0)) (t p k (c p)))

        by_column : (b p k ≡ c e) ⊎ (b p k ≡ c e → ⊥) → (t p k (c p) *ℚ t e q (b p k)) ≤ℚ whole (pos 0)
        by_column (inl is) =
            let line : k ≡ l p = basic_once n v (t p) (b p) (trail.forms p (omega (arith, p_low))) k (l p) low (trail.turns p p_low).line (is ∙ sym left) in
            let up : whole (pos 0) <ℚ t p k (c p) = subst (λ k. whole (pos 0) <ℚ t p k (c p)) (sym line) (bl p p_low).up in
            let down : t e q (b p k) <ℚ whole (pos 0) = subst (λ x. t e q x <ℚ whole (pos 0)) (sym is) (bl e e_low).falls in
            by_le (t p k (c p) ∷ t e q (b p k) ∷ []) (weak up · gap (<ℚ-≤ℚ down)) (search reads depth 40) tt
        by_column (inr apart) = by_zero apart (zero_or_not (t e q (b p k)))

    final : (e : ℕ) → e < z → ((r : ℕ) → r < z → c r ≤ c e) → (p : ℕ) → p < z → b p (l p) ≡ c e → ⊥
    final e e_low top p p_low left =
        let bound : c p ≤ c e = top p p_low in
        let down : t p q (c p) <ℚ whole (pos 0) = (bl p p_low).falls in
        let apart : c p ≡ c e → ⊥ =
        λ is. not_basic n v q (t p) (b p) (c p) above (trail.forms p (omega (arith, p_low))) (nonzero_below (t p q (c p)) down)
        (l p, (trail.turns p p_low).line, left ∙ sym is) in
        let up : whole (pos 0) ≤ℚ t e q (c p) = (bl e e_low).first (c p) (omega (arith, bound, apart)) in
        let column : c p < m = (trail.turns p p_low).column in
        let sum : total n (λ k. t p k (c p) *ℚ t e q (b p k)) -ℚ t e q (c p) ≡ neg_ℚ (t p q (c p)) =
        cost_at n v q (t p) (t e) (b p) above (trail_alike n m v q z t b l c above trail p e (omega (arith, p_low)) (omega (arith, e_low)))
        (trail.forms p (omega (arith, p_low))) (c p) (omega (arith, column, wide)) in
        let negated : total n (λ k. neg_ℚ (whole (pos 1)) *ℚ (t p k (c p) *ℚ t e q (b p k)))
        ≡ neg_ℚ (whole (pos 1)) *ℚ total n (λ k. t p k (c p) *ℚ t e q (b p k)) =
        total-*ℚ n (neg_ℚ (whole (pos 1))) (λ k. t p k (c p) *ℚ t e q (b p k)) in
        let under : whole (pos 0) ≤ℚ total n (λ k. neg_ℚ (whole (pos 1)) *ℚ (t p k (c p) *ℚ t e q (b p k))) =
        total_nonneg n (λ k. neg_ℚ (whole (pos 1)) *ℚ (t p k (c p) *ℚ t e q (b p k)))
        (λ k low. by_le ((t p k (c p) *ℚ t e q (b p k)) ∷ []) (gap (term e p k e_low p_low low top left)) (search reads depth 40) tt) in
        contradicts (total n (λ k. t p k (c p) *ℚ t e q (b p k))) (t e q (c p)) (t p q (c p)) up down sum (subst (λ (x : ℚ). whole (pos 0) ≤ℚ x) negated under)
