-- What the tests of proofs tell.
use Rattle.std.proofs.Common.{◌≡◌, refl, sym, ap, ◌∙◌, ℕ, ◌<◌, List, [], ◌∷◌, ◌&&◌, length, ℤ, Bool, true, false, Result, Ok, Err, All, Decides, IfOk}
use Rattle.std.proofs.Common.{nat_lt, arith}
use Rattle.std.proofs.lemmas.Bool.Decides.{Decides-by_and, Decides-ltb, Decides-like}
use Rattle.std.specs.List.{list_all, AllZip}
use Rattle.pa_frac.specs.declared.wide.Wide.{Wide}
use Rattle.pa_meaning.specs.Rows.{Row}
use Rattle.pa_meaning.specs.Weights.{Weights, AllPlaced, Proves}
use Rattle.pa_row.specs.Width.{IsCanonical}
use Rattle.pa_row.specs.Sums.{covers_in}
use Rattle.pa_row.proofs.WeightedSums.{covers_truly}
use Rattle.pa_holds.specs.Refined.{ProveEach}
use Rattle.pa_check.specs.Tests.{both, each_with, Tells}
use Rattle.pa_check.specs.Proofs.{are_below, proof_in, proofs_in}
use Rattle.pa_check.proofs.Tests.{tells_sure, tells_like, tells_both, tells_each_with, told}

pub below_decides : (n : ℕ) (parts : List (ℕ × ℤ)) → Decides (are_below n parts) (All (λ part. part.0 < n) parts)
below_decides n parts =
    Decides-by_and (λ part. nat_lt part.0 n) (λ part. part.0 < n) (λ xs. list_all (λ part. nat_lt part.0 n) xs) (λ part. Decides-ltb part.0 n) refl
    (λ x xs. refl) parts

pub placed_from : (rows : List Row) (parts : List (ℕ × ℤ)) → are_below (length rows) parts ≡ true → AllPlaced parts rows
placed_from rows parts e = (below_decides (length rows) parts).0 e

pub proof_tells : (rows : List Row) (row : Row) (w : Weights) → IsCanonical w → All (λ r. length r.c ≡ length row.c) rows
    → Tells (proof_in rows row w) (Proves w rows row)
proof_tells rows row w canonical columns =
    tells_like (proof_in rows row w) (λ h. h.1) (λ p. (p.places, p))
    (tells_both (Ok (are_below (length rows) w.parts)) (covers_in rows row w)
    (tells_sure (are_below (length rows) w.parts) (below_decides (length rows) w.parts))
    (λ placed passed e. covers_truly rows row w passed canonical placed columns (sym e)))

pub proof_told : (answer : Result Bool Wide) (rows : List Row) (row : Row) (w : Weights) → IsCanonical w → All (λ r. length r.c ≡ length row.c) rows
    → answer ≡ proof_in rows row w → IfOk answer (λ passed. Decides passed (Proves w rows row))
proof_told answer rows row w canonical columns e = told answer (proof_in rows row w) e (proof_tells rows row w canonical columns)

same_columns : (n : ℕ) (rows : List Row) (row : Row) → All (λ r. length r.c ≡ n) rows → length row.c ≡ n → All (λ r. length r.c ≡ length row.c) rows
same_columns n rows row a e k d h = a k d h ∙ sym e

pub proofs_tells : (n : ℕ) (rows asked : List Row) (ws : List Weights) → All IsCanonical ws → All (λ r. length r.c ≡ n) rows
    → All (λ r. length r.c ≡ n) asked → Tells (proofs_in rows asked ws) (ProveEach rows asked ws)
proofs_tells n rows asked ws canonical columns asked_columns =
    tells_each_with (proof_in rows) (λ r. length r.c ≡ n) IsCanonical (λ row w. Proves w rows row)
    (λ row w e c. proof_tells rows row w c (same_columns n rows row columns e)) asked ws asked_columns canonical

pub proofs_told : (answer : Result Bool Wide) (n : ℕ) (rows asked : List Row) (ws : List Weights) → All IsCanonical ws → All (λ r. length r.c ≡ n) rows
    → All (λ r. length r.c ≡ n) asked → answer ≡ proofs_in rows asked ws → IfOk answer (λ passed. Decides passed (ProveEach rows asked ws))
proofs_told answer n rows asked ws canonical columns asked_columns e =
    told answer (proofs_in rows asked ws) e (proofs_tells n rows asked ws canonical columns asked_columns)

pub proof_fails : (rows : List Row) (row : Row) (w : Weights) → IsCanonical w → All (λ r. length r.c ≡ length row.c) rows → Ok false ≡ proof_in rows row w
    → Decides false (Proves w rows row)
proof_fails rows row w canonical columns e = proof_tells rows row w canonical columns false (sym e)
