-- Linear inequalities over columns, and the points that meet them.
use Rattle.std.specs.Prelude.{ℕ, zero, suc, List, [], ◌∷◌, take, ℤ, pos, ◌+ℤ◌, ◌*ℤ◌, ◌≤ℤ◌, int_div, All}
use Rattle.pa_ring.specs.Sums.{dot, sum_of, times, without}
use Rattle.pa_math.specs.Divisors.{gcd_all, quotients}

-- a row says that the sum of `c i * x i` is at most `b`
pub record Row : Type 0 where
  pub c : List ℤ
  pub b : ℤ

-- A point has the fraction `p i / q` in column i. That `q` is at least 1 stands wherever there is to be such a point, as in
-- `Behaviour`.
pub record Point : Type 0 where
  pub p : List ℤ
  pub q : ℤ

-- the point meets the row, with both sides times the denominator
pub record Meets (r : Row) (x : Point) : Type 0 where
  pub meets : dot r.c x.p ≤ℤ (r.b *ℤ x.q)

-- the point breaks the row
abbrev pub Breaks : Row → Point → Type 0
Breaks r x = ¬ Meets r x

-- a list of rows is a conjunction: the point meets each of them
abbrev pub MeetsAll : List Row → Point → Type 0
MeetsAll rows x = All (λ r. Meets r x) rows

-- the row at a place; past the end `0 <= 0`
abbrev pub row_at : List Row → ℕ → Row
row_at [] i = record { c = []; b = pos 0 }
row_at (row ∷ rows) zero = row
row_at (row ∷ rows) (suc i) = row_at rows i

-- ---- formulas on rows
-- the row with all its numbers divided by their greatest common divisor; a row of zeros stays as it is
abbrev pub primitive : Row → Row
primitive row = let g : ℤ = gcd_all (row.b ∷ row.c) in record { c = quotients g row.c; b = int_div row.b g }

-- m times the row p and l times the row n, added up
abbrev pub row_sum : ℤ → Row → ℤ → Row → Row
row_sum m p l n = record { c = sum_of (times m p.c) (times l n.c); b = m *ℤ p.b +ℤ l *ℤ n.b }

-- the row without the column
abbrev pub without_column : ℕ → Row → Row
without_column k row = record { c = without k row.c; b = row.b }

-- the row over its first n columns
abbrev pub front_row : ℕ → Row → Row
front_row n r = record { c = take n r.c; b = r.b }
