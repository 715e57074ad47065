-- No two tableaux of a run have the same set of basic columns.
use Rattle.std.proofs.Common.{◌≡◌, ℕ, zero, suc, ◌<◌, ◌≤◌, ◌+◌, ◌-◌, ◌⊎◌, inl, inr, List, [], ◌∷◌, length}
use Rattle.std.proofs.Common.{Contains, get_or, Result, refl, sym, ap, subst, ◌∙◌, arith, pos}
use Rattle.std.proofs.lemmas.List.{get_or_default}
use Rattle.std.proofs.lemmas.List.Elements.{All-from_get_or}
use Rattle.pa_ring.specs.Choices.{NoRepeats, SameElements, IsChoice, choices}
use Rattle.pa_ring.proofs.Choices.{no_choice_twice}
use Rattle.pa_math.specs.Rational.{ℚ, whole, ◌*ℚ◌, neg_ℚ}
use Rattle.pa_math.proofs.RationalTactics.{by_equations, null, ◌⋆◌, ◌⊞◌, reads}
use Rattle.pa_tableau.specs.declared.wide_at.WideAt.{WideAt}
use Rattle.pa_tableau.specs.Tableau.{Tableau, cell}
use Rattle.pa_replay.specs.Replay.{Ended}
use Rattle.pa_replay.specs.Replay as replay
use Rattle.pa_replay.proofs.Sums.{total, total_same, total_zeros, unit, unit_other}
use Rattle.pa_replay.proofs.Steps.{Cells, Solves}
use Rattle.pa_replay.proofs.Basics.{basic, basic_solves, basic_cost, first_cost_is}
use Rattle.pa_replay.proofs.Bridges.{cells_of}
use Rattle.pa_replay.proofs.Kept.{IsReached}
use Rattle.pa_replay.proofs.Theorems.{HoldsProblem}
use Rattle.pa_replay.proofs.Clean.{IsClean}
use Rattle.pa_replay.proofs.Alike.{IsIn, HaveSame, same_or_not, basic_once, same_cost}
use Rattle.pa_replay.proofs.Cycles.{IsTurn, IsBland, IsTrail, walk_back, was_in, no_cycle, trail_alike, nonzero_below}
use Rattle.pa_replay.proofs.Trails.{History}

-- ---- a part of a trail
-- the pivots from i on
pub later_part : (n m v z i d : ℕ) (t : ℕ → Cells) (b : ℕ → ℕ → ℕ) (l c : ℕ → ℕ) → i + d ≤ z → IsTrail n m v z t b l c
    → IsTrail n m v d (λ s. t (i + s)) (λ s. b (i + s)) (λ s. l (i + s)) (λ s. c (i + s))
later_part n m v z i d t b l c room trail = record {
  turns = λ s low.
      (let next : suc (i + s) ≡ i + suc s = omega arith in
      subst (λ r. IsTurn n m (t (i + s)) (t r) (b (i + s)) (b r) (l (i + s)) (c (i + s))) next (trail.turns (i + s) (omega (arith, room, low))));
  forms = λ s low. trail.forms (i + s) (omega (arith, room, low));
  values = λ s low. trail.values (i + s) (omega (arith, room, low));
}

-- within a phase
pub phase_apart : (n m v q z i j : ℕ) (t : ℕ → Cells) (b : ℕ → ℕ → ℕ) (l c : ℕ → ℕ) → n ≤ q → m ≤ v → i < j → j ≤ z → IsTrail n m v z t b l c →
    ((s : ℕ) → i ≤ s → s < j → IsBland n v q (t s) (b s) (l s) (c s)) → HaveSame n (b i) (b j) → ⊥
phase_apart n m v q z i j t b l c above wide less end trail bl same =
    let from : i ≡ i + 0 = omega arith in
    let upto : j ≡ i + (j - i) = omega (arith, less) in
    no_cycle n m v q (j - i) (λ s. t (i + s)) (λ s. b (i + s)) (λ s. l (i + s)) (λ s. c (i + s)) above wide (omega (arith, less))
    (later_part n m v z i (j - i) t b l c (omega (arith, less, end)) trail)
    (λ s low. bl (i + s) (omega arith) (omega (arith, low, less)))
    (subst (λ r. HaveSame n (b (i + 0)) (b r)) upto (subst (λ r. HaveSame n (b r) (b j)) from same))

-- an artificial column that is driven out does not come back
pub drive_apart : (n m v z i j s : ℕ) (t : ℕ → Cells) (b : ℕ → ℕ → ℕ) (l c : ℕ → ℕ) → i ≤ s → s < j → j ≤ z → IsTrail n m v z t b l c → m ≤ b s (l s)
    → HaveSame n (b i) (b j) → ⊥
drive_apart n m v z i j s t b l c from less end trail high same =
    let x : ℕ = b s (l s) in
    let turn : IsTurn n m (t s) (t (suc s)) (b s) (b (suc s)) (l s) (c s) = trail.turns s (omega (arith, less, end)) in
    let back : (r : ℕ) → r < z → IsIn n (b (suc r)) x → IsIn n (b r) x =
    λ r low. was_in n m x (t r) (t (suc r)) (b r) (b (suc r)) (l r) (c r) (trail.turns r low)
    (λ e. (let column = (trail.turns r low).column in absurd (omega (arith, e, column, high)))) in
    let first : IsIn n (b i) x = walk_back (λ r. IsIn n (b r) x) z back i s from (omega (arith, less, end)) (l s, turn.line, refl) in
    out turn (walk_back (λ r. IsIn n (b r) x) z back (suc s) j (omega (arith, less)) end (same.0 x first))
  where
    out : IsTurn n m (t s) (t (suc s)) (b s) (b (suc s)) (l s) (c s) → IsIn n (b (suc s)) (b s (l s)) → ⊥
    out turn (k, low, e) = by_line (same_or_not k (l s))
      where
        by_line : (k ≡ l s) ⊎ (k ≡ l s → ⊥) → ⊥
        by_line (inl here) =
            (let is : c s ≡ b s (l s) = sym turn.here ∙ ap (b (suc s)) (sym here) ∙ e in let column = turn.column in absurd (omega (arith, is, column, high)))
        by_line (inr apart) = apart (basic_once n v (t s) (b s) (trail.forms s (omega (arith, less, end))) k (l s) low turn.line (sym (turn.there k apart) ∙ e))

-- ---- across the phases
-- where each line of an artificial column is 0 in the rows' columns, so is cost row 1
clean_cost : (n m : ℕ) (sign : ℕ → ℚ) (row : ℕ → ℕ → ℚ) (target bound : ℕ → ℚ) (loaded u : Tableau) → HoldsProblem n m sign row target bound loaded
    → IsReached n m (n + m + 1) loaded u → IsClean n m n u → (c : ℕ) → c < m → cell u n c ≡ whole (pos 0)
clean_cost n m sign row target bound loaded u p r clean c column =
    let z : ℕ → ℚ = basic n c (replay.basic u) (λ k. cell u k c) in
    let inside : (k : ℕ) → k < n → replay.basic u k < n + m + 1 = λ k below. (let h = r.inside k below in omega (arith, h)) in
    let solves : Solves n (n + m + 1) (cells_of u) z = basic_solves n (n + m + 1) c (replay.basic u) (cells_of u) inside (omega (arith, column)) r.basics in
    let sum : neg_ℚ (cell u n c) ≡ total n (λ k. z (m + k)) =
    sym (basic_cost n (n + m + 1) c n (replay.basic u) (cells_of u) (omega arith) inside (omega (arith, column)) r.basics)
    ∙ r.costs z solves n (omega arith)
    ∙ first_cost_is n m (n + m + 1) (cells_of loaded) (cells_of loaded n) z (omega arith) p.first (r.solved z solves) in
    let none : total n (λ k. z (m + k)) ≡ whole (pos 0) =
    total_same n (λ k. z (m + k)) (λ k. whole (pos 0)) (λ k low. artificial (m + k) (omega arith)) ∙ total_zeros n in
    by_equations (cell u n c ∷ total n (λ k. z (m + k)) ∷ []) (neg_ℚ (whole (pos 1)) ⋆ null sum ⊞ neg_ℚ (whole (pos 1)) ⋆ null none) (search reads depth 40) tt
  where
    below_or_not : (i k : ℕ) → (i < k) ⊎ (k ≤ i)
    below_or_not i k = search arith

    term : (j k : ℕ) → m ≤ j → k < n → (replay.basic u k < m) ⊎ (m ≤ replay.basic u k) → cell u k c *ℚ unit (replay.basic u k) j ≡ whole (pos 0)
    term j k high low (inl own) =
        let off : unit (replay.basic u k) j ≡ whole (pos 0) = unit_other (replay.basic u k) j (λ e. absurd (omega (arith, e, own, high))) in
        by_equations (cell u k c ∷ unit (replay.basic u k) j ∷ []) (cell u k c ⋆ null off) (search reads depth 40) tt
    term j k high low (inr artificial) =
        let nothing : cell u k c ≡ whole (pos 0) = clean.cells k low artificial c column in
        by_equations (cell u k c ∷ unit (replay.basic u k) j ∷ []) (unit (replay.basic u k) j ⋆ null nothing) (search reads depth 40) tt

    artificial : (j : ℕ) → m ≤ j → basic n c (replay.basic u) (λ k. cell u k c) j ≡ whole (pos 0)
    artificial j high =
        let rest : total n (λ k. cell u k c *ℚ unit (replay.basic u k) j) ≡ whole (pos 0) =
        total_same n (λ k. cell u k c *ℚ unit (replay.basic u k) j) (λ k. whole (pos 0)) (λ k low. term j k high low (below_or_not (replay.basic u k) m))
        ∙ total_zeros n in
        let off : unit c j ≡ whole (pos 0) = unit_other c j (λ e. absurd (omega (arith, e, column, high))) in
        by_equations (total n (λ k. cell u k c *ℚ unit (replay.basic u k) j) ∷ unit c j ∷ []) (null rest ⊞ neg_ℚ (whole (pos 1)) ⋆ null off)
        (search reads depth 40) tt

-- ---- a whole run
pub history_trail : (n m least left : ℕ) (loaded t : Tableau) (ended : Ended) (most : ℕ → Result Ended WideAt) (h : History n m least left loaded t ended most)
    → IsTrail n m (n + m) h.made (λ s. cells_of (h.tables s)) (λ s. replay.basic (h.tables s)) h.lines h.columns
history_trail n m least left loaded t ended most h = record {
  turns = λ s low. (h.steps s low).turn;
  forms = λ s low. record { inside = (h.feasible s low).reached.inside; basics = (h.feasible s low).reached.basics };
  values = λ s low. (h.feasible s low).values;
}

-- No set of basic columns comes twice.
pub history_apart : (n m least left : ℕ) (sign : ℕ → ℚ) (row : ℕ → ℕ → ℚ) (target bound : ℕ → ℚ) (loaded t : Tableau) (ended : Ended)
    (most : ℕ → Result Ended WideAt)
    → HoldsProblem n m sign row target bound loaded → (h : History n m least left loaded t ended most) → (i j : ℕ) → i < j → j ≤ h.made
    → HaveSame n (replay.basic (h.tables i)) (replay.basic (h.tables j)) → ⊥
history_apart n m least left sign row target bound loaded t ended most p h i zero less end same = absurd (omega (arith, less))
history_apart n m least left sign row target bound loaded t ended most p h i (suc r) less end same =
    by_kinds (kind_is (h.kinds i) (h.steps i (omega (arith, less, end))).known) (kind_is (h.kinds r) (h.steps r (omega (arith, end))).known)
  where
    trail : IsTrail n m (n + m) h.made (λ s. cells_of (h.tables s)) (λ s. replay.basic (h.tables s)) h.lines h.columns
    trail = history_trail n m least left loaded t ended most h

    kind_is : (k : ℕ) → k ≤ 2 → (k ≡ 0) ⊎ (k ≡ 1) ⊎ (k ≡ 2)
    kind_is k h = search arith

    equal_or_less : (i s : ℕ) → i ≤ s → (i ≡ s) ⊎ (i < s)
    equal_or_less i s h = search arith

    from_first : (s : ℕ) → s < suc r → (i ≡ s) ⊎ (i < s) → h.kinds i ≤ h.kinds s
    from_first s low (inl e) = subst (λ s. h.kinds i ≤ h.kinds s) e (omega arith)
    from_first s low (inr before) = h.order i s before (omega (arith, low, end))

    to_last : (s : ℕ) → (s ≡ r) ⊎ (s < r) → h.kinds s ≤ h.kinds r
    to_last s (inl e) = subst (λ r. h.kinds s ≤ h.kinds r) e (omega arith)
    to_last s (inr before) = h.order s r before (omega (arith, end))

    by_kinds : (h.kinds i ≡ 0) ⊎ (h.kinds i ≡ 1) ⊎ (h.kinds i ≡ 2) → (h.kinds r ≡ 0) ⊎ (h.kinds r ≡ 1) ⊎ (h.kinds r ≡ 2) → ⊥
    by_kinds (inr (inl e)) last =
        drive_apart n m (n + m) h.made i (suc r) i (λ s. cells_of (h.tables s)) (λ s. replay.basic (h.tables s)) h.lines h.columns (omega arith) less end trail
        ((h.steps i (omega (arith, less, end))).driven e) same
    by_kinds first (inr (inl e)) =
        drive_apart n m (n + m) h.made i (suc r) r (λ s. cells_of (h.tables s)) (λ s. replay.basic (h.tables s)) h.lines h.columns (omega (arith, less))
        (omega arith) end trail
        ((h.steps r (omega (arith, end))).driven e) same
    by_kinds first (inl e) =
        phase_apart n m (n + m) n h.made i (suc r) (λ s. cells_of (h.tables s)) (λ s. replay.basic (h.tables s)) h.lines h.columns (omega arith) (omega arith)
        less end trail
        (λ s from low. (let up = to_last s (equal_or_less s r (omega (arith, low))) in (h.steps s (omega (arith, low, end))).first (omega (arith, up, e)))) same
    by_kinds (inr (inr e)) (inr (inr last)) =
        phase_apart n m (n + m) (n + 1) h.made i (suc r) (λ s. cells_of (h.tables s)) (λ s. replay.basic (h.tables s)) h.lines h.columns (omega arith)
        (omega arith) less end trail
        (λ s from low. (let up = from_first s low (equal_or_less i s from) in
        let k = (h.steps s (omega (arith, low, end))).known in
        ((h.steps s (omega (arith, low, end))).second (omega (arith, up, k, e))).0)) same
    by_kinds (inl e) (inr (inr last)) =
        let step = h.steps i (omega (arith, less, end)) in
        let none : cell (h.tables (suc r)) n (h.columns i) ≡ whole (pos 0) =
        clean_cost n m sign row target bound loaded (h.tables (suc r)) p (h.feasible (suc r) end).reached ((h.steps r (omega (arith, end))).second last).1
        (h.columns i) step.turn.column in
        let column : h.columns i < m = step.turn.column in
        let equal : cell (h.tables i) n (h.columns i) ≡ cell (h.tables (suc r)) n (h.columns i) =
        same_cost n (n + m) n (cells_of (h.tables i)) (cells_of (h.tables (suc r))) (replay.basic (h.tables i)) (replay.basic (h.tables (suc r))) (omega arith)
        (trail_alike n m (n + m) n h.made (λ s. cells_of (h.tables s)) (λ s. replay.basic (h.tables s)) h.lines h.columns (omega arith) trail i (suc r)
        (omega (arith, less, end)) end)
        (trail.forms i (omega (arith, less, end))) (trail.forms (suc r) end) same.0 (h.columns i) (omega (arith, column)) in
        nonzero_below (cell (h.tables i) n (h.columns i)) (step.first e).falls (equal ∙ none)

-- ---- bases as lists
-- the basic columns of the lines are the elements of the basis
basis_in : (n x : ℕ) (t : Tableau) → length t.basis ≡ n → Contains t.basis x → IsIn n (replay.basic t) x
basis_in n x t long (k, low, e) = (k, omega (arith, low, long), sym (get_or_default t.basis k x 0 low) ∙ e)

in_basis : (n x : ℕ) (t : Tableau) → length t.basis ≡ n → IsIn n (replay.basic t) x → Contains t.basis x
in_basis n x t long (k, low, e) = (k, omega (arith, low, long), get_or_default t.basis k x 0 (omega (arith, low, long)) ∙ e)

pub same_basis : (n : ℕ) (t u : Tableau) → length t.basis ≡ n → length u.basis ≡ n → SameElements t.basis u.basis → HaveSame n (replay.basic t) (replay.basic u)
same_basis n t u long also same =
    (λ x h. basis_in n x u also ((same x).0 (in_basis n x t long h)), λ x h. basis_in n x t long ((same x).1 (in_basis n x u also h)))

once_from_places : (xs : List ℕ) → ((i k : ℕ) → i < k → k < length xs → get_or xs i 0 ≡ get_or xs k 0 → ⊥) → NoRepeats xs
once_from_places [] h = tt
once_from_places (x ∷ xs) h = (λ found. again found, once_from_places xs (λ i k less low e. h (suc i) (suc k) (omega (arith, less)) (omega (arith, low)) e))
  where
    again : Contains xs x → ⊥
    again (k, low, e) = h 0 (suc k) (omega arith) (omega (arith, low)) (sym e ∙ get_or_default xs k x 0 low)

-- a basis is a choice of n of the columns
pub basis_choice : (n m : ℕ) (loaded t : Tableau) → IsReached n m (n + m + 1) loaded t → IsChoice (n + m) n t.basis
basis_choice n m loaded t r = record {
  places = All-from_get_or (λ x. x < n + m) t.basis 0 (λ k low. (let long = r.basis in r.inside k (omega (arith, low, long))));
  distinct = once_from_places t.basis (λ i k less low e.
      (let long = r.basis in
      let same =
      basic_once n (n + m) (cells_of t) (replay.basic t) (record { inside = r.inside; basics = r.basics }) i k (omega (arith, less, low, long))
      (omega (arith, low, long)) e in
      absurd (omega (arith, same, less))));
  size = r.basis;
}

-- No two bases of a run have the same elements.
pub bases_apart : (n m least left : ℕ) (sign : ℕ → ℚ) (row : ℕ → ℕ → ℚ) (target bound : ℕ → ℚ) (loaded t : Tableau) (ended : Ended)
    (most : ℕ → Result Ended WideAt)
    → HoldsProblem n m sign row target bound loaded → (h : History n m least left loaded t ended most) → (i j : ℕ) → i < j → j ≤ h.made
    → SameElements (h.tables i).basis (h.tables j).basis → ⊥
bases_apart n m least left sign row target bound loaded t ended most p h i j less end same =
    history_apart n m least left sign row target bound loaded t ended most p h i j less end
    (same_basis n (h.tables i) (h.tables j) (h.feasible i (omega (arith, less, end))).reached.basis (h.feasible j end).reached.basis same)

-- So a run makes fewer pivots than there are choices of n of the columns.
pub pivots_below : (n m least left : ℕ) (sign : ℕ → ℚ) (row : ℕ → ℕ → ℚ) (target bound : ℕ → ℚ) (loaded t : Tableau) (ended : Ended)
    (most : ℕ → Result Ended WideAt)
    → HoldsProblem n m sign row target bound loaded → (h : History n m least left loaded t ended most) → h.made < choices (n + m) n
pivots_below n m least left sign row target bound loaded t ended most p h =
    let bound : suc h.made ≤ choices (n + m) n =
    no_choice_twice (n + m) n (suc h.made) (λ s. (h.tables s).basis) (λ s low. basis_choice n m loaded (h.tables s) (h.feasible s (omega (arith, low))).reached)
    (λ i j less low same. absurd (bases_apart n m least left sign row target bound loaded t ended most p h i j less (omega (arith, low)) same)) in
    omega (arith, bound)
