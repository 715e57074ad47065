-- Behaviours that are moved along a direction, and points read as behaviours.
use Rattle.std.proofs.Common.{◌≡◌, refl, sym, ap, ap₂, ◌∙◌, ℕ, zero, suc, ◌≤◌, true, false, cond, List, [], ◌∷◌, length, map, All, Contains, arith}
use Rattle.std.proofs.lemmas.Int.{ints}
use Rattle.std.proofs.lemmas.Cmp.{nat_list_eq_equiv}
use Rattle.std.proofs.lemmas.Map.Keys.{IsDistinct-head, IsDistinct-tail}
use Rattle.std.proofs.lemmas.List.Elements.{All-contains, recursion_from_All, All-from_recursion}
use Rattle.std.specs.List.{list_any, IsDistinct, AllByRecursion}
use Rattle.std.specs.Str.{bytes_eq}
use lib.IntN.{ℤ, pos, negsuc, ◌+ℤ◌, ◌-ℤ◌, ◌*ℤ◌}
use lib.Signed.{◌≤ℤ◌, ◌<ℤ◌}
use Rattle.pa_ring.specs.Sums.{dot}
use Rattle.pa_ring.proofs.Integers.{gap, gap_lt, ◌·◌, ◌∔◌, ◌⊕◌, null}
use Rattle.pa_ring.proofs.IntegerTactics.{by_le, by_lt, by_ring, by_equations, reads}
use Rattle.pa_ring.proofs.Lists.{All-from_contains}
use Rattle.pa_ring.proofs.Sums.{dot_comm}
use Rattle.pa_math.specs.Lists.{AreAmong}
use Rattle.pa_math.proofs.Unions.{AreAmong-itself, All-implied}
use Rattle.pa_meaning.specs.Rows.{Row, Point, Meets, MeetsAll, Breaks, row_at}
use Rattle.pa_meaning.specs.Contracts.{Name, Behaviour, point_over, coefficient_at, behaviour_of}
use Rattle.pa_meaning.proofs.Places.{coefficient_at-cons}
use Rattle.pa_meaning.proofs.NamedRows.{dot-over_names}

-- ---- moving
-- the behaviour, k steps along the direction
abbrev pub moved : Behaviour → ℤ → (Name → ℤ) → Behaviour
moved v k d = record { value = λ n. v.value n +ℤ k *ℤ d n; den = v.den; positive = v.positive }

pub dot_moved : (cs : List ℤ) (f d : Name → ℤ) (k : ℤ) (names : List Name)
    → dot cs (map (λ n. f n +ℤ k *ℤ d n) names) ≡ dot cs (map f names) +ℤ k *ℤ dot cs (map d names)
dot_moved [] f d k names = by_ring (k ∷ []) (search reads depth 40) tt
dot_moved (c ∷ cs) f d k [] = by_ring (k ∷ []) (search reads depth 40) tt
dot_moved (c ∷ cs) f d k (n ∷ ns) =
    by_equations (c ∷ f n ∷ k ∷ d n ∷ dot cs (map (λ n. f n +ℤ k *ℤ d n) ns) ∷ dot cs (map f ns) ∷ dot cs (map d ns) ∷ []) (null (dot_moved cs f d k ns))
    (search reads depth 40) tt

-- a row that does not rise along the direction stays met
pub met_moved : (names : List Name) (r : Row) (v : Behaviour) (k : ℤ) (d : Name → ℤ) → pos 0 ≤ℤ k → dot r.c (map d names) ≤ℤ pos 0
    → Meets r (point_over names v) → Meets r (point_over names (moved v k d))
met_moved names r v k d up level h = record {
  meets = rw (dot_moved r.c v.value d k names) (by_le (dot r.c (map v.value names) ∷ k ∷ dot r.c (map d names) ∷ r.b ∷ v.den ∷ [])
      (gap h.meets ∔ up · gap level) (search reads depth 40) tt);
}

pub all_met_moved : (names : List Name) (rows : List Row) (v : Behaviour) (k : ℤ) (d : Name → ℤ) → pos 0 ≤ℤ k → All (λ r. dot r.c (map d names) ≤ℤ pos 0) rows
    → MeetsAll rows (point_over names v) → MeetsAll rows (point_over names (moved v k d))
all_met_moved names rows v k d up level h =
    All-from_contains (λ r. Meets r (point_over names (moved v k d))) rows
    (λ r i. met_moved names r v k d up (All-contains (λ r. dot r.c (map d names) ≤ℤ pos 0) rows r level i)
    (All-contains (λ r. Meets r (point_over names v)) rows r h i))

-- what rises passes each bound
pub past : (z s : ℤ) → pos 0 <ℤ s → (k : ℤ) × (pos 0 ≤ℤ k) × (z <ℤ (k *ℤ s))
past (pos n) s up = (
  pos n +ℤ pos 1,
  omega (arith, ints),
  by_lt (pos n ∷ s ∷ []) (up ⊕ nonneg · gap_lt up) (search reads depth 40) tt,
)
  where
    nonneg : pos 0 ≤ℤ pos n
    nonneg = omega (arith, ints)
past (negsuc n) s up = (pos 0, omega (arith, ints), omega (arith, ints))

-- a row that rises along the direction is broken far enough along
pub broken_moved : (names : List Name) (r : Row) (v : Behaviour) (d : Name → ℤ) → pos 0 <ℤ dot r.c (map d names) → (k : ℤ) × (pos 0 ≤ℤ k)
    × Breaks r (point_over names (moved v k d))
broken_moved names r v d up =
    let (k, nonneg, far) = past (r.b *ℤ v.den -ℤ dot r.c (map v.value names)) (dot r.c (map d names)) up in (
      k,
      nonneg,
      λ h. let sum : (dot r.c (map v.value names) +ℤ k *ℤ dot r.c (map d names)) ≤ℤ (r.b *ℤ v.den) = rw (dot_moved r.c v.value d k names) at h.meets in
          absurd (omega (arith, ints)),
    )

-- ---- points as behaviours
map-agree : {A B : Type 0} (f g : A → B) (xs : List A) → AllByRecursion (λ x. f x ≡ g x) xs → map f xs ≡ map g xs
map-agree f g [] h = refl
map-agree f g (x ∷ xs) h = ap₂ ◌∷◌ h.0 (map-agree f g xs h.1)

-- the numbers of different names, one for each, are read as they are
pub own_numbers : (names : List Name) (xs : List ℤ) → IsDistinct bytes_eq names → length xs ≡ length names → map (coefficient_at names xs) names ≡ xs
own_numbers [] [] d e = refl
own_numbers [] (x ∷ xs) d e = absurd (omega arith)
own_numbers (n ∷ ns) [] d e = absurd (omega arith)
own_numbers (n ∷ ns) (x ∷ xs) d e =
    ap₂ ◌∷◌ (coefficient_at-cons n ns x xs n ∙ ap (λ b. cond b x (coefficient_at ns xs n)) (nat_list_eq_equiv.refl n))
    (map-agree (coefficient_at (n ∷ ns) (x ∷ xs)) (coefficient_at ns xs) ns
    (All-implied (λ m. bytes_eq n m ≡ false) (λ m. coefficient_at (n ∷ ns) (x ∷ xs) m ≡ coefficient_at ns xs m)
    (λ m f. coefficient_at-cons n ns x xs m ∙ ap (λ b. cond b x (coefficient_at ns xs m)) (nat_list_eq_equiv.symm m n ∙ f)) ns
    (IsDistinct-head bytes_eq n ns d))
    ∙ own_numbers ns xs (IsDistinct-tail bytes_eq n ns d) (omega arith))

pub point_is : (names : List Name) (x : Point) (up : pos 0 <ℤ x.q) → IsDistinct bytes_eq names → length x.p ≡ length names
    → point_over names (behaviour_of names x up) ≡ x
point_is names x up d e = λ i. record { p = own_numbers names x.p d e i; q = x.q }

-- ---- lists of names
-- a name that a list contains is found there
pub found : (names : List Name) (n : Name) → Contains names n → list_any (bytes_eq n) names ≡ true
found names n i =
    All-contains (λ n. list_any (bytes_eq n) names ≡ true) names n (All-from_recursion (λ n. list_any (bytes_eq n) names ≡ true) names
    (AreAmong-itself bytes_eq nat_list_eq_equiv.refl names)) i

pub among_from : (xs ys : List Name) → ((n : Name) → Contains xs n → Contains ys n) → AreAmong bytes_eq xs ys
among_from xs ys h = recursion_from_All (λ n. list_any (bytes_eq n) ys ≡ true) xs
    (All-from_contains (λ n. list_any (bytes_eq n) ys ≡ true) xs (λ n i. found ys n (h n i)))

-- a row and a direction, each with its own names, have one sum of products
pub slope_is : (wider names columns : List Name) (cs ds : List ℤ) → IsDistinct bytes_eq wider → IsDistinct bytes_eq names → IsDistinct bytes_eq columns
    → AreAmong bytes_eq names wider → AreAmong bytes_eq columns wider
    → dot (map (coefficient_at names cs) columns) ds ≡ dot cs (map (coefficient_at columns ds) names)
slope_is wider names columns cs ds dw dn dc an ac =
    dot_comm (map (coefficient_at names cs) columns) ds
    ∙ sym (dot-over_names (coefficient_at names cs) wider columns ds dw dc ac)
    ∙ dot_comm (map (coefficient_at columns ds) wider) (map (coefficient_at names cs) wider)
    ∙ dot-over_names (coefficient_at columns ds) wider names cs dw dn an

-- the row at a place of mapped rows
pub row_at-map : (f : Row → Row) (rows : List Row) (i : ℕ) → suc i ≤ length rows → row_at (map f rows) i ≡ f (row_at rows i)
row_at-map f [] i h = absurd (omega arith)
row_at-map f (r ∷ rows) zero h = refl
row_at-map f (r ∷ rows) (suc i) h = row_at-map f rows i (omega arith)
