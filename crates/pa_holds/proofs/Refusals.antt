-- What is known where no refusal by name is due.
use Rattle.std.proofs.Common.{◌≤◌, ◌≡◌, refl, sym, subst, append_assoc, append-nil, ◌+◌, Bool, true, false, not, ◌&&◌, ◌||◌, cond, ℕ, length, nat_lt, Ok}
use Rattle.std.proofs.Common.{Err, Option, Some, None, option_map, List, [], ◌∷◌, ◌++◌, Contains, arith}
use Rattle.std.proofs.lemmas.Cmp.{nat_list_eq_equiv}
use Rattle.std.proofs.lemmas.Map.Keys.{IsDistinct-push}
use Rattle.std.proofs.lemmas.Slice.Eq.{bytes_eq-Decides}
use Rattle.std.proofs.lemmas.List.Elements.{Contains-append_right}
use Rattle.std.proofs.lemmas.Bool.Decides.{nat_tests}
use Rattle.std.specs.Prelude.{sum_by}
use Rattle.std.specs.List.{list_all, IsDistinct}
use Rattle.std.specs.Str.{bytes_eq}
use Rattle.pa_ring.specs.Choices.{SameElements}
use Rattle.pa_math.specs.Answers.{given}
use Rattle.pa_math.specs.Lists.{AreApart, AreAmong}
use Rattle.pa_math.proofs.Unions.{AreApart-flip, All-implied, find-none, distinct-nil}
use Rattle.pa_meaning.specs.Contracts.{Name, Contract, ports}
use Rattle.pa_meaning.specs.Composition.{is_among, all_outputs, names_of}
use Rattle.pa_meaning.specs.Quotient.{quotient_names}
use Rattle.pa_cert.specs.declared.refusal.NameRefusal.{NameRefusal}
use Rattle.pa_cert.specs.declared.refusal.NameRefusal.TheVariants.{PortClash, NotOutput, PortsDiffer, Variables, Rows}
use Rattle.pa_holds.specs.Refusals.{or_due, first_missing, first_shared}
use Rattle.pa_holds.specs.Refusals.{first_repeat, are_same_names, too_many_names, too_many_rows}
use Rattle.pa_holds.specs.Refusals.{due_merge, due_refine, due_bound, due_hide, due_compose, due_quotient}
use Rattle.pa_names.specs.Names.{most_ports}
use Rattle.pa_contract.specs.declared.fault.MergeFault.TheVariants as fault
use Rattle.pa_contract.specs.Merge.{first_clash, row_count, most_rows, merged, merge_of}

-- ---- none of two
first_none : (a b : Option NameRefusal) → or_due a b ≡ None → a ≡ None
first_none None b h = refl
first_none (Some r) b h = absurd (cc)

second_none : (a b : Option NameRefusal) → or_due a b ≡ None → b ≡ None
second_none None b h = h
second_none (Some r) b h = absurd (cc)

unmapped : (f : Name → NameRefusal) (o : Option Name) → option_map f o ≡ None → o ≡ None
unmapped f None h = refl
unmapped f (Some n) h = absurd (cc)

left_true : (a b : Bool) → (a && b) ≡ true → a ≡ true
left_true true b h = refl
left_true false b h = absurd (cc)

right_true : (a b : Bool) → (a && b) ≡ true → b ≡ true
right_true true b h = h
right_true false b h = absurd (cc)

not_false : (b : Bool) → not b ≡ false → b ≡ true
not_false true h = refl
not_false false h = absurd (cc)

-- ---- no name is missing, shared or repeated
pub none_missing : (names asked : List Name) → first_missing names asked ≡ None → AreAmong bytes_eq asked names
none_missing names asked h = All-implied (λ n. not (is_among names n) ≡ false) (λ n. is_among names n ≡ true) (λ n f. not_false (is_among names n) f) asked
    (find-none (λ n. not (is_among names n)) asked h)

pub none_shared : (names asked : List Name) → first_shared names asked ≡ None → AreApart bytes_eq names asked
none_shared names asked h = AreApart-flip bytes_eq nat_list_eq_equiv asked names (find-none (is_among names) asked h)

none_repeated_from : (before ns : List Name) → IsDistinct bytes_eq before → first_repeat before ns ≡ None → IsDistinct bytes_eq (before ++ ns)
none_repeated_from before [] d h = subst (IsDistinct bytes_eq) (sym (append-nil before)) d
none_repeated_from before (n ∷ ns) d h =
    by (is_among before n) refl h (λ e k. none_repeated_from (before ++ n ∷ []) ns (IsDistinct-push nat_list_eq_equiv before n d e) k)
  where
    by : (b : Bool) → is_among before n ≡ b → cond b (Some n) (first_repeat (before ++ n ∷ []) ns) ≡ None
        → (is_among before n ≡ false → first_repeat (before ++ n ∷ []) ns ≡ None → IsDistinct bytes_eq ((before ++ n ∷ []) ++ ns))
        → IsDistinct bytes_eq (before ++ n ∷ ns)
    by true e h rest = absurd (cc)
    by false e h rest = subst (IsDistinct bytes_eq) (append_assoc before (n ∷ []) ns) (rest e h)

pub none_repeated : (ns : List Name) → first_repeat [] ns ≡ None → IsDistinct bytes_eq ns
none_repeated ns h = none_repeated_from [] ns (distinct-nil bytes_eq) h

-- ---- the same names
there : (n : Name) (ys : List Name) → is_among ys n ≡ true → Contains ys n
there n [] h = absurd (cc)
there n (y ∷ ys) h = by (bytes_eq n y) refl h (there n ys)
  where
    by : (b : Bool) → bytes_eq n y ≡ b → (b || is_among ys n) ≡ true → (is_among ys n ≡ true → Contains ys n) → Contains (y ∷ ys) n
    by true e h rest = subst (Contains (y ∷ ys)) (sym ((bytes_eq-Decides n y).0 e)) (0, omega arith, refl)
    by false e h rest = Contains-append_right (y ∷ []) ys n (rest h)

each_there : (xs ys : List Name) → list_all (is_among ys) xs ≡ true → (n : Name) → is_among xs n ≡ true → is_among ys n ≡ true
each_there [] ys h n i = absurd (cc)
each_there (x ∷ xs) ys h n i = by (bytes_eq n x) refl i (each_there xs ys (right_true (is_among ys x) (list_all (is_among ys) xs) h) n)
  where
    by : (b : Bool) → bytes_eq n x ≡ b → (b || is_among xs n) ≡ true → (is_among xs n ≡ true → is_among ys n ≡ true) → is_among ys n ≡ true
    by true e i rest = subst (λ m. is_among ys m ≡ true) (sym ((bytes_eq-Decides n x).0 e)) (left_true (is_among ys x) (list_all (is_among ys) xs) h)
    by false e i rest = rest i

pub same_names : (xs ys : List Name) → ((n : Name) → Contains xs n → is_among xs n ≡ true) → ((n : Name) → Contains ys n → is_among ys n ≡ true)
    → are_same_names xs ys ≡ true → SameElements xs ys
same_names xs ys fx fy h n = (
  λ i. there n ys (each_there xs ys (left_true (list_all (is_among ys) xs) (list_all (is_among xs) ys) h) n (fx n i)),
  λ i. there n xs (each_there ys xs (right_true (list_all (is_among ys) xs) (list_all (is_among xs) ys) h) n (fy n i)),
)

-- ---- each operation
chosen_none : (b : Bool) (o : Option NameRefusal) (r : NameRefusal) → cond b o (Some r) ≡ None → b ≡ true
chosen_none true o r h = refl
chosen_none false o r h = absurd (cc)

pub refine_same : (c other : Contract) → due_refine c other ≡ None → (are_same_names c.inputs other.inputs ≡ true)
    × (are_same_names c.outputs other.outputs ≡ true)
refine_same c other h =
    let both = chosen_none (are_same_names c.inputs other.inputs && are_same_names c.outputs other.outputs) (too_many_rows (row_count c + row_count other))
    PortsDiffer h in (
      left_true (are_same_names c.inputs other.inputs) (are_same_names c.outputs other.outputs) both,
      right_true (are_same_names c.inputs other.inputs) (are_same_names c.outputs other.outputs) both,
    )

pub bound_among : (c : Contract) (names : List Name) → due_bound c names ≡ None → AreAmong bytes_eq names (ports c)
bound_among c names h = none_missing (ports c) names (unmapped _ (first_missing (ports c) names) (first_none _ (too_many_rows (row_count c)) h))

pub compose_distinct : (parts : List Contract) (keep : List Name) → due_compose parts keep ≡ None → IsDistinct bytes_eq (all_outputs parts)
compose_distinct parts keep h = none_repeated (all_outputs parts) (unmapped _ (first_repeat [] (all_outputs parts)) (first_none _ _ h))

pub quotient_clear : (whole part : Contract) → due_quotient whole part ≡ None → AreApart bytes_eq whole.inputs part.outputs
quotient_clear whole part h = none_shared whole.inputs part.outputs (unmapped _ (first_shared whole.inputs part.outputs) (first_none _ _ h))

pub merge_clear : (c other : Contract) → due_merge c other ≡ None → first_clash c other ≡ None
merge_clear c other h = unmapped _ (first_clash c other) (first_none _ _ h)

not_refused : (b : Bool) (r : NameRefusal) → cond b (Some r) None ≡ None → b ≡ false
not_refused true r h = absurd (cc)
not_refused false r h = refl

few_names : (names : List Name) → too_many_names names ≡ None → nat_lt most_ports (length names) ≡ false
few_names names h = not_refused (nat_lt most_ports (length names)) (Variables (length names)) h

few_rows : (n : ℕ) → too_many_rows n ≡ None → nat_lt most_rows n ≡ false
few_rows n h = not_refused (nat_lt most_rows n) (Rows n) h

-- so the merge is computed without a refusal
pub merge_computed : (c other : Contract) → due_merge c other ≡ None → merge_of c other ≡ Ok (merged c other)
merge_computed c other h =
    let names = few_names (ports (merged c other)) (first_none _ _ (second_none _ _ h)) in
    let rows = few_rows (row_count c + row_count other) (second_none _ _ (second_none _ _ h)) in
    by (first_clash c other) (nat_lt most_ports (length (ports (merged c other)))) (nat_lt most_rows (row_count c + row_count other))
    (merge_clear c other h) names rows
  where
    by : (o : Option Name) (a b : Bool) → o ≡ None → a ≡ false → b ≡ false → given
        (cond a (Err (fault.VariableLimit (length (ports (merged c other)))))
        (cond b (Err (fault.Load (row_count c + row_count other))) (Ok (merged c other)))) o (λ name. Err (fault.PortClash name)) ≡ Ok (merged c other)
    by None false false e f g = refl
    by None true b e f g = absurd (cc)
    by None false true e f g = absurd (cc)
    by (Some n) a b e f g = absurd (cc)

-- ---- how many names and rows there are
at_most : (n m : ℕ) → nat_lt m n ≡ false → n ≤ m
at_most n m h = grind (arith, nat_tests)

names_at_most : (names : List Name) → too_many_names names ≡ None → length names ≤ most_ports
names_at_most names h = at_most (length names) most_ports (few_names names h)

rows_at_most : (n : ℕ) → too_many_rows n ≡ None → n ≤ most_rows
rows_at_most n h = at_most n most_rows (few_rows n h)

pub merge_names : (c other : Contract) → due_merge c other ≡ None → length (ports (merged c other)) ≤ most_ports
merge_names c other h =
    names_at_most (ports (merged c other))
    (first_none (too_many_names (ports (merged c other))) (too_many_rows (row_count c + row_count other))
    (second_none (option_map PortClash (first_clash c other))
    (or_due (too_many_names (ports (merged c other))) (too_many_rows (row_count c + row_count other))) h))

pub merge_rows : (c other : Contract) → due_merge c other ≡ None → row_count c + row_count other ≤ most_rows
merge_rows c other h =
    rows_at_most (row_count c + row_count other)
    (second_none (too_many_names (ports (merged c other))) (too_many_rows (row_count c + row_count other))
    (second_none (option_map PortClash (first_clash c other))
    (or_due (too_many_names (ports (merged c other))) (too_many_rows (row_count c + row_count other))) h))

pub hide_rows : (c : Contract) (names : List Name) → due_hide c names ≡ None → row_count c ≤ most_rows
hide_rows c names h =
    rows_at_most (row_count c) (second_none (option_map NotOutput (first_missing c.outputs names)) (too_many_rows (row_count c)) h)

compose_counts : (parts : List Contract) (keep : List Name) → due_compose parts keep ≡ None
    → or_due (too_many_names (names_of parts)) (too_many_rows (sum_by row_count parts)) ≡ None
compose_counts parts keep h =
    second_none (option_map NotOutput (first_missing (all_outputs parts) keep))
    (or_due (too_many_names (names_of parts)) (too_many_rows (sum_by row_count parts)))
    (second_none (option_map PortClash (first_repeat [] (all_outputs parts)))
    (or_due (option_map NotOutput (first_missing (all_outputs parts) keep))
    (or_due (too_many_names (names_of parts)) (too_many_rows (sum_by row_count parts)))) h)

pub compose_names : (parts : List Contract) (keep : List Name) → due_compose parts keep ≡ None → length (names_of parts) ≤ most_ports
compose_names parts keep h =
    names_at_most (names_of parts) (first_none (too_many_names (names_of parts)) (too_many_rows (sum_by row_count parts)) (compose_counts parts keep h))

pub compose_rows : (parts : List Contract) (keep : List Name) → due_compose parts keep ≡ None → sum_by row_count parts ≤ most_rows
compose_rows parts keep h =
    rows_at_most (sum_by row_count parts)
    (second_none (too_many_names (names_of parts)) (too_many_rows (sum_by row_count parts)) (compose_counts parts keep h))

quotient_counts : (whole part : Contract) → due_quotient whole part ≡ None
    → or_due (too_many_names (quotient_names whole part)) (too_many_rows (row_count whole + row_count part)) ≡ None
quotient_counts whole part h =
    second_none (option_map PortClash (first_shared whole.inputs part.outputs))
    (or_due (too_many_names (quotient_names whole part)) (too_many_rows (row_count whole + row_count part))) h

pub quotient_names_few : (whole part : Contract) → due_quotient whole part ≡ None → length (quotient_names whole part) ≤ most_ports
quotient_names_few whole part h =
    names_at_most (quotient_names whole part)
    (first_none (too_many_names (quotient_names whole part)) (too_many_rows (row_count whole + row_count part)) (quotient_counts whole part h))

pub quotient_rows : (whole part : Contract) → due_quotient whole part ≡ None → row_count whole + row_count part ≤ most_rows
quotient_rows whole part h =
    rows_at_most (row_count whole + row_count part)
    (second_none (too_many_names (quotient_names whole part)) (too_many_rows (row_count whole + row_count part)) (quotient_counts whole part h))
