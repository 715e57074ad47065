-- Shifts that hold: nothing is left in the columns that go, and the rows that are printed ask what is left of the terms.
use Rattle.std.proofs.Common.{◌↔◌, ℕ, List, [], ◌∷◌, ◌++◌, length}
use Rattle.std.proofs.lemmas.List.Elements.{All-nil, All-cons, All-head, All-tail}
use Rattle.std.specs.List.{AllZip}
use Rattle.pa_meaning.specs.Rows.{Row, Point, Meets, MeetsAll, front_row}
use Rattle.pa_meaning.specs.Weights.{Weights}
use Rattle.pa_meaning.specs.Contracts.{Name, Behaviour, point_over}
use Rattle.pa_meaning.specs.Shifting.{less_weighted, Leaves, shifted}
use Rattle.pa_witness.specs.Shifts.{ShiftHolds, ShiftsHold, shifted_rows}
use Rattle.pa_meaning.proofs.PrimitiveRows.{Meets-primitive}
use Rattle.pa_meaning.proofs.Shifting.{zero_behind, met_from_front, front_from_met, terms_met}

pub leaves_from_shift : (n : ℕ) (rows : List Row) (t : Row) (w : Weights) → ShiftHolds n rows t w → Leaves n rows t w
leaves_from_shift n rows t w h = record { positive = h.positive; weights = h.weights; places = h.places; gone = zero_behind n (less_weighted t rows w) h.gone }

pub leaves_each : (n : ℕ) (rows ts : List Row) (ws : List Weights) → ShiftsHold n rows ts ws → AllZip (λ t w. Leaves n rows t w) ts ws
leaves_each n rows [] [] h = tt
leaves_each n rows [] (w ∷ ws) h = h
leaves_each n rows (t ∷ ts) [] h = h
leaves_each n rows (t ∷ ts) (w ∷ ws) h = (leaves_from_shift n rows t w h.0, leaves_each n rows ts ws h.1)

-- ---- lists of shifted terms
module _ (first others : List Name) (v : Behaviour) (rows : List Row) where
  abbrev whole : Point
  whole = point_over (first ++ others) v

  -- the printed rows, at the first names, are met exactly where what is left of the terms is
  pub shifts_read : (ts : List Row) (ws : List Weights) → ShiftsHold (length first) rows ts ws
      → MeetsAll (shifted_rows (length first) rows ts ws) (point_over first v) ↔ AllZip (λ t w. Meets (less_weighted t rows w) whole) ts ws
  shifts_read [] [] h = (λ m. tt, λ m. All-nil (λ r. Meets r (point_over first v)))
  shifts_read [] (w ∷ ws) h = absurd h
  shifts_read (t ∷ ts) [] h = absurd h
  shifts_read (t ∷ ts) (w ∷ ws) h =
      let rest = shifts_read ts ws h.1 in
      let front : Row = front_row (length first) (shifted t rows w) in (
        λ m. (
          (Meets-primitive (less_weighted t rows w) whole).0 (met_from_front first others v (shifted t rows w) h.0.gone
              (All-head (λ r. Meets r (point_over first v)) front (shifted_rows (length first) rows ts ws) m)),
          rest.0 (All-tail (λ r. Meets r (point_over first v)) front (shifted_rows (length first) rows ts ws) m),
        ),
        λ m. All-cons (λ r. Meets r (point_over first v)) front (shifted_rows (length first) rows ts ws)
            (front_from_met first others v (shifted t rows w) h.0.gone ((Meets-primitive (less_weighted t rows w) whole).1 m.0)) (rest.1 m.1),
      )

  -- A behaviour that meets the rows and, at the first names, the shifted terms meets the terms.
  pub shifts_met : (ts : List Row) (ws : List Weights) → ShiftsHold (length first) rows ts ws → MeetsAll rows whole
      → MeetsAll (shifted_rows (length first) rows ts ws) (point_over first v) → MeetsAll ts whole
  shifts_met ts ws h met m = terms_met first others v rows ts ws (leaves_each (length first) rows ts ws h) met ((shifts_read ts ws h).0 m)
