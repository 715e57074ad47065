-- Equations in a commutative ring, each in one line. For the whole numbers the same names, with no ring to write, are in `IntegerTactics`.
--     by_ring R (a ∷ b ∷ []) (search reads depth 40) tt             an identity in the atoms a and b
--     by_equations R (a ∷ b ∷ []) w (search reads depth 40) tt      an equation `x ≡ y`, from a proof `w` that the difference `x - y` is 0
-- The list holds the atoms: up to 12 numbers, which may be any terms. `search reads` finds a term of `Polynomials` for each number, out of
-- atoms, sums, differences, products, negations and numerals, and `tt` says that the terms agree.
-- Where `search` finds nothing, an atom is missing in the list, or `depth 40` or `fits 1000` is too small for the sides.
-- Where `tt` is refused, `Remains k m` tells which product of atoms, by their places, is left with the coefficient k: the sides differ.
-- Another ring needs no rules of its own: give the `abbrev` record of its laws for R. `of (pos n)` is how its numerals are read.
use Rattle.std.proofs.Common.{◌≡◌, ℕ, ◌^◌, List, ◌∷◌, refl, sym, ap, ◌∙◌}
use Prim.Native.Nat.{compare, Ordering}
use mathlib.Core.Path.{ap₂}
use lib.IntN.{pos, negsuc}
use Rattle.pa_ring.specs.CommutativeRing.{CommutativeRing}
use Rattle.pa_ring.proofs.Polynomials.{Term, var, num, plus, minus, times, negative, AllZero, normal, value, ring, mul-zero}

module _ (R : CommutativeRing) where
  open R use {carrier, ◌+◌, ◌*◌, neg, of, add_comm, zero-add, add-neg}

  -- a term for a number, over a list of atoms
  pub record Reads (ρ : List carrier) (x : carrier) : Type 0 where
    pub term : Term
    pub is : value R term ρ ≡ x

  -- terms for the two sides of an equation
  pub record Sides (ρ : List carrier) (x y : carrier) : Type 0 where
    pub left : Reads ρ x
    pub right : Reads ρ y

  -- terms for the two sides, and for a number that is to be their difference
  pub record Differ (ρ : List carrier) (x y w : carrier) : Type 0 where
    pub left : Reads ρ x
    pub right : Reads ρ y
    pub difference : Reads ρ w

  -- ---- how a term is found
  -- a sum
  abbrev pub reads_add : {ρ : List carrier} {x y : carrier} → Reads ρ x → Reads ρ y → Reads ρ (x + y)
  reads_add r s = record { term = plus r.term s.term; is = ap₂ ◌+◌ r.is s.is }

  -- a product
  abbrev pub reads_mul : {ρ : List carrier} {x y : carrier} → Reads ρ x → Reads ρ y → Reads ρ (x * y)
  reads_mul r s = record { term = times r.term s.term; is = ap₂ ◌*◌ r.is s.is }

  -- a negation, and so a difference
  abbrev pub reads_neg : {ρ : List carrier} {x : carrier} → Reads ρ x → Reads ρ (neg x)
  reads_neg r = record { term = negative r.term; is = ap neg r.is }

  -- a numeral: the test does not compute at a variable, which is an atom
  abbrev pub reads_numeral : {ρ : List carrier} {n : ℕ} → compare n (2 ^ 128) ≡ Ordering.lt → Reads ρ (of (pos n))
  reads_numeral {n = n} closed = record { term = num (pos n); is = refl }

  -- a negative numeral
  abbrev pub reads_negative_numeral : {ρ : List carrier} {n : ℕ} → compare n (2 ^ 128) ≡ Ordering.lt → Reads ρ (of (negsuc n))
  reads_negative_numeral {n = n} closed = record { term = num (negsuc n); is = refl }

  -- the atom at each place of the list
  abbrev pub place_0 : {ρ : List carrier} {x : carrier} → Reads (x ∷ ρ) x
  place_0 = record { term = var 0; is = refl }

  abbrev pub place_1 : {ρ : List carrier} {x0 x : carrier} → Reads (x0 ∷ x ∷ ρ) x
  place_1 = record { term = var 1; is = refl }

  abbrev pub place_2 : {ρ : List carrier} {x0 x1 x : carrier} → Reads (x0 ∷ x1 ∷ x ∷ ρ) x
  place_2 = record { term = var 2; is = refl }

  abbrev pub place_3 : {ρ : List carrier} {x0 x1 x2 x : carrier} → Reads (x0 ∷ x1 ∷ x2 ∷ x ∷ ρ) x
  place_3 = record { term = var 3; is = refl }

  abbrev pub place_4 : {ρ : List carrier} {x0 x1 x2 x3 x : carrier} → Reads (x0 ∷ x1 ∷ x2 ∷ x3 ∷ x ∷ ρ) x
  place_4 = record { term = var 4; is = refl }

  abbrev pub place_5 : {ρ : List carrier} {x0 x1 x2 x3 x4 x : carrier} → Reads (x0 ∷ x1 ∷ x2 ∷ x3 ∷ x4 ∷ x ∷ ρ) x
  place_5 = record { term = var 5; is = refl }

  abbrev pub place_6 : {ρ : List carrier} {x0 x1 x2 x3 x4 x5 x : carrier} → Reads (x0 ∷ x1 ∷ x2 ∷ x3 ∷ x4 ∷ x5 ∷ x ∷ ρ) x
  place_6 = record { term = var 6; is = refl }

  abbrev pub place_7 : {ρ : List carrier} {x0 x1 x2 x3 x4 x5 x6 x : carrier} → Reads (x0 ∷ x1 ∷ x2 ∷ x3 ∷ x4 ∷ x5 ∷ x6 ∷ x ∷ ρ) x
  place_7 = record { term = var 7; is = refl }

  abbrev pub place_8 : {ρ : List carrier} {x0 x1 x2 x3 x4 x5 x6 x7 x : carrier} → Reads (x0 ∷ x1 ∷ x2 ∷ x3 ∷ x4 ∷ x5 ∷ x6 ∷ x7 ∷ x ∷ ρ) x
  place_8 = record { term = var 8; is = refl }

  abbrev pub place_9 : {ρ : List carrier} {x0 x1 x2 x3 x4 x5 x6 x7 x8 x : carrier} → Reads (x0 ∷ x1 ∷ x2 ∷ x3 ∷ x4 ∷ x5 ∷ x6 ∷ x7 ∷ x8 ∷ x ∷ ρ) x
  place_9 = record { term = var 9; is = refl }

  abbrev pub place_10 : {ρ : List carrier} {x0 x1 x2 x3 x4 x5 x6 x7 x8 x9 x : carrier} → Reads (x0 ∷ x1 ∷ x2 ∷ x3 ∷ x4 ∷ x5 ∷ x6 ∷ x7 ∷ x8 ∷ x9 ∷ x ∷ ρ) x
  place_10 = record { term = var 10; is = refl }

  abbrev pub place_11 : {ρ : List carrier} {x0 x1 x2 x3 x4 x5 x6 x7 x8 x9 x10 x : carrier}
      → Reads (x0 ∷ x1 ∷ x2 ∷ x3 ∷ x4 ∷ x5 ∷ x6 ∷ x7 ∷ x8 ∷ x9 ∷ x10 ∷ x ∷ ρ) x
  place_11 = record { term = var 11; is = refl }

  -- both sides of an equation
  abbrev pub reads_sides : {ρ : List carrier} {x y : carrier} → Reads ρ x → Reads ρ y → Sides ρ x y
  reads_sides r s = record { left = r; right = s }

  -- both sides and the difference
  abbrev pub reads_difference : {ρ : List carrier} {x y w : carrier} → Reads ρ x → Reads ρ y → Reads ρ w → Differ ρ x y w
  reads_difference r s t = record { left = r; right = s; difference = t }

  -- for `search`: terms of numbers, of sides and of differences
  pub ruleset reads = (
    reads_sides,
    reads_difference,
    reads_add,
    reads_mul,
    reads_neg,
    place_0,
    place_1,
    place_2,
    place_3,
    place_4,
    place_5,
    place_6,
    place_7,
    place_8,
    place_9,
    place_10,
    place_11,
    reads_numeral,
    reads_negative_numeral,
  )

  -- ---- equations
  -- an identity, each side by a term of its own
  pub ring_by : (ρ : List carrier) {x y : carrier} (r : Reads ρ x) (s : Reads ρ y) → AllZero (normal (minus r.term s.term)) → x ≡ y
  ring_by ρ r s h = sym r.is ∙ ring R ρ r.term s.term h ∙ s.is

  -- an identity
  pub by_ring : (ρ : List carrier) {x y : carrier} (s : Sides ρ x y) → AllZero (normal (minus s.left.term s.right.term)) → x ≡ y
  by_ring ρ s h = ring_by ρ s.left s.right h

  -- an equation from others, each side by a term of its own: `w`, which is 0, is the difference of the sides
  pub same_by : (ρ : List carrier) {x y w : carrier} → w ≡ of (pos 0) → (r : Reads ρ x) (s : Reads ρ y) (t : Reads ρ w) →
      AllZero (normal (minus r.term (plus s.term t.term))) → x ≡ y
  same_by ρ {x} {y} {w} e r s t h =
      sym r.is ∙ ring R ρ r.term (plus s.term t.term) h ∙ ap₂ ◌+◌ s.is t.is ∙ ap (λ z. y + z) e ∙ add_comm y (of (pos 0)) ∙ zero-add y

  -- an equation from others: `w`, which is 0, is the difference of its sides
  pub by_equations : (ρ : List carrier) {x y w : carrier} → w ≡ of (pos 0) → (s : Differ ρ x y w) →
      AllZero (normal (minus s.left.term (plus s.right.term s.difference.term))) → x ≡ y
  by_equations ρ e s h = same_by ρ e s.left s.right s.difference h

  -- ---- facts `w ≡ of (pos 0)`, which multiply and add
  -- the difference of equal numbers
  pub null : {x y : carrier} → x ≡ y → x + neg y ≡ of (pos 0)
  null {x} {y} e = ap (λ t. t + neg y) e ∙ add-neg y

  -- such a fact times any number
  infixl 7 ◌⋆◌
  pub ◌⋆◌ : (c : carrier) {w : carrier} → w ≡ of (pos 0) → c * w ≡ of (pos 0)
  ◌⋆◌ c {w} e = ap (λ t. c * t) e ∙ mul-zero R c

  -- the sum of two such facts
  infixl 6 ◌⊞◌
  pub ◌⊞◌ : {v w : carrier} → v ≡ of (pos 0) → w ≡ of (pos 0) → v + w ≡ of (pos 0)
  ◌⊞◌ e f = ap₂ ◌+◌ e f ∙ zero-add (of (pos 0))
