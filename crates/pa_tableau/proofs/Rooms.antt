-- The room of a work.
use Rattle.std.proofs.Common.{◌≡◌, ℕ, ◌<◌, ◌≤◌, ◌+◌, ◌*◌, List, ◌++◌, length, take, drop, arith}
use Rattle.std.proofs.lemmas.Nat.{mul-le}
use Rattle.std.proofs.lemmas.List.{take_at}

pub lines_in_room : (lines columns most_lines most_rows len : ℕ) → lines ≤ most_lines → columns ≤ most_lines + most_rows + 1
    → (most_lines + 2) * (most_lines + most_rows + 1) ≤ len → (lines + 2) * columns ≤ len
lines_in_room lines columns most_lines most_rows len h k room =
    let product : (lines + 2) * columns ≤ (most_lines + 2) * (most_lines + most_rows + 1) =
    mul-le (lines + 2) columns (most_lines + 2) (most_lines + most_rows + 1) (omega arith) k in
    omega (arith, product, room)

pub line_in_room : (line lines columns len : ℕ) → line < lines → lines * columns ≤ len → line * columns + columns ≤ len
line_in_room line lines columns len h room =
    let product : (line + 1) * columns ≤ lines * columns = mul-le (line + 1) columns lines columns (omega arith) (omega arith) in
    omega (arith, product, room)

-- a list that is written back whole
pub written_back : {A : Type 0} (n : ℕ) (new old : List A) → length new ≡ n → take n (new ++ drop (length new) old) ≡ new
written_back n new old h = take_at new (drop (length new) old) n h
