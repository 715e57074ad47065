-- The names of a quotient: they are different, and have the ports of the whole and of the part.
use Rattle.std.proofs.Common.{◌≡◌, refl, subst, append_assoc, Bool, true, false, not, cond, List, [], ◌∷◌, ◌++◌, filter, All}
use Rattle.std.proofs.lemmas.Cmp.{nat_list_eq_equiv}
use Rattle.std.proofs.lemmas.Map.Keys.{IsDistinct-head, IsDistinct-tail, IsDistinct-cons}
use Rattle.std.proofs.lemmas.List.Elements.{All-nil, All-cons, All-weaker, All-append, All-filter, All-from_recursion, recursion_from_All}
use Rattle.std.specs.List.{list_any, IsDistinct, AllByRecursion}
use Rattle.std.specs.Str.{bytes_eq}
use Rattle.pa_ring.proofs.Lists.{All-filter_where, All-from_filter}
use Rattle.pa_math.specs.Lists.{AreApart, AreAmong}
use Rattle.pa_math.proofs.Unions.{AreApart-flip, All-both, IsDistinct-both, IsDistinct-left, IsDistinct-right, IsDistinct-apart}
use Rattle.pa_math.proofs.Unions.{AreAmong-itself, list_any-left, list_any-right}
use Rattle.pa_meaning.specs.Contracts.{Name, Contract, ports}
use Rattle.pa_meaning.specs.Composition.{is_among}
use Rattle.pa_meaning.specs.Quotient.{other_outputs, quotient_ports, quotient_names}
use Rattle.pa_meaning.proofs.PartRows.{FitsNames}

by_test : {X : Type 0} (t : Bool) → (t ≡ true → X) → (t ≡ false → X) → X
by_test true f g = f refl
by_test false f g = g refl

not_true : (b : Bool) → not b ≡ true → b ≡ false
not_true true h = absurd (cc)
not_true false h = refl

not_false : (b : Bool) → not b ≡ false → b ≡ true
not_false true h = refl
not_false false h = absurd (cc)

all_names : (P : Name → Type 0) (xs : List Name) → ((n : Name) → P n) → All P xs
all_names P [] h = All-nil P
all_names P (x ∷ xs) h = All-cons P x xs (h x) (all_names P xs h)

-- the names that pass a test are different, and stay apart from what they were apart from
filter_recursion : (P : Name → Type 0) (test : Name → Bool) (xs : List Name) → AllByRecursion P xs → AllByRecursion P (filter test xs)
filter_recursion P test xs h = recursion_from_All P (filter test xs) (All-filter test P xs (All-from_recursion P xs h))

filter_distinct : (test : Name → Bool) (xs : List Name) → IsDistinct bytes_eq xs → IsDistinct bytes_eq (filter test xs)
filter_distinct test [] d = d
filter_distinct test (x ∷ xs) d = by (test x) (filter_distinct test xs (IsDistinct-tail bytes_eq x xs d))
  where
    by : (b : Bool) → IsDistinct bytes_eq (filter test xs) → IsDistinct bytes_eq (cond b (x ∷ filter test xs) (filter test xs))
    by true rest = IsDistinct-cons bytes_eq x (filter test xs) (filter_recursion (λ y. bytes_eq x y ≡ false) test xs (IsDistinct-head bytes_eq x xs d)) rest
    by false rest = rest

-- what is not among some names is apart from them
filter_apart : (names xs : List Name) → AreApart bytes_eq (filter (λ n. not (is_among names n)) xs) names
filter_apart names xs =
    recursion_from_All (λ n. list_any (bytes_eq n) names ≡ false) (filter (λ n. not (is_among names n)) xs)
    (All-filter_where (λ n. list_any (bytes_eq n) names ≡ false) (λ n. not (is_among names n)) xs
    (all_names (λ n. not (is_among names n) ≡ true → list_any (bytes_eq n) names ≡ false) xs (λ n h. not_true (is_among names n) h)))

apart_both : (xs ys zs : List Name) → AreApart bytes_eq xs zs → AreApart bytes_eq ys zs → AreApart bytes_eq (xs ++ ys) zs
apart_both xs ys zs h k = All-both (λ n. list_any (bytes_eq n) zs ≡ false) xs ys h k

module _ (whole part : Contract) (dw : IsDistinct bytes_eq (ports whole)) (dp : IsDistinct bytes_eq (ports part))
    (clear : AreApart bytes_eq whole.inputs part.outputs) where
  abbrev own : List Name
  own = other_outputs whole part

  abbrev extra : List Name
  extra = filter (λ n. not (is_among (whole.inputs ++ own) n)) part.inputs

  first_distinct : IsDistinct bytes_eq (whole.inputs ++ own)
  first_distinct =
      IsDistinct-both bytes_eq whole.inputs own (IsDistinct-left bytes_eq whole.inputs whole.outputs dw)
      (filter_distinct (λ n. not (is_among part.outputs n)) whole.outputs (IsDistinct-right bytes_eq whole.inputs whole.outputs dw))
      (AreApart-flip bytes_eq nat_list_eq_equiv own whole.inputs
      (filter_recursion (λ n. list_any (bytes_eq n) whole.inputs ≡ false) (λ n. not (is_among part.outputs n)) whole.outputs
      (AreApart-flip bytes_eq nat_list_eq_equiv whole.inputs whole.outputs (IsDistinct-apart bytes_eq whole.inputs whole.outputs dw))))

  -- no two ports of a quotient are equal
  pub quotient_ports_distinct : IsDistinct bytes_eq (quotient_ports whole part)
  quotient_ports_distinct =
      subst (IsDistinct bytes_eq) (append_assoc whole.inputs own extra)
      (IsDistinct-both bytes_eq (whole.inputs ++ own) extra first_distinct
      (filter_distinct (λ n. not (is_among (whole.inputs ++ own) n)) part.inputs (IsDistinct-left bytes_eq part.inputs part.outputs dp))
      (AreApart-flip bytes_eq nat_list_eq_equiv extra (whole.inputs ++ own) (filter_apart (whole.inputs ++ own) part.inputs)))

  pub ports_apart : AreApart bytes_eq (quotient_ports whole part) part.outputs
  ports_apart =
      apart_both whole.inputs (own ++ extra) part.outputs clear
      (apart_both own extra part.outputs (filter_apart part.outputs whole.outputs)
      (filter_recursion (λ n. list_any (bytes_eq n) part.outputs ≡ false) (λ n. not (is_among (whole.inputs ++ own) n)) part.inputs
      (IsDistinct-apart bytes_eq part.inputs part.outputs dp)))

  -- nor any two of its names
  pub quotient_names_distinct : IsDistinct bytes_eq (quotient_names whole part)
  quotient_names_distinct = IsDistinct-both bytes_eq (quotient_ports whole part) part.outputs quotient_ports_distinct
      (IsDistinct-right bytes_eq part.inputs part.outputs dp) ports_apart

  -- ---- what the names have
  abbrev IsPort : Name → Type 0
  IsPort n = list_any (bytes_eq n) (quotient_ports whole part) ≡ true

  abbrev IsName : Name → Type 0
  IsName n = list_any (bytes_eq n) (quotient_names whole part) ≡ true

  itself : (xs : List Name) → All (λ n. list_any (bytes_eq n) xs ≡ true) xs
  itself xs = All-from_recursion (λ n. list_any (bytes_eq n) xs ≡ true) xs (AreAmong-itself bytes_eq nat_list_eq_equiv.refl xs)

  whole_inputs_ports : All IsPort whole.inputs
  whole_inputs_ports = All-weaker (λ n. list_any (bytes_eq n) whole.inputs ≡ true) IsPort (λ n h. list_any-left (bytes_eq n) whole.inputs (own ++ extra) h)
      whole.inputs (itself whole.inputs)

  port_is_name : (n : Name) → IsPort n → IsName n
  port_is_name n h = list_any-left (bytes_eq n) (quotient_ports whole part) part.outputs h

  part_output_is_name : (n : Name) → list_any (bytes_eq n) part.outputs ≡ true → IsName n
  part_output_is_name n h = list_any-right (bytes_eq n) (quotient_ports whole part) part.outputs h

  own_ports : All IsPort own
  own_ports = All-weaker (λ n. list_any (bytes_eq n) own ≡ true) IsPort
      (λ n h. list_any-right (bytes_eq n) whole.inputs (own ++ extra) (list_any-left (bytes_eq n) own extra h)) own (itself own)

  whole_outputs_names : All IsName whole.outputs
  whole_outputs_names =
      All-weaker (λ n. not (is_among part.outputs n) ≡ true → IsPort n) IsName
      (λ n h. by_test (not (is_among part.outputs n)) (λ t. port_is_name n (h t)) (λ f. part_output_is_name n (not_false (is_among part.outputs n) f)))
      whole.outputs
      (All-from_filter IsPort (λ n. not (is_among part.outputs n)) whole.outputs own_ports)

  extra_ports : All IsPort extra
  extra_ports = All-weaker (λ n. list_any (bytes_eq n) extra ≡ true) IsPort
      (λ n h. list_any-right (bytes_eq n) whole.inputs (own ++ extra) (list_any-right (bytes_eq n) own extra h)) extra (itself extra)

  first_is_port : (n : Name) → list_any (bytes_eq n) (whole.inputs ++ own) ≡ true → IsPort n
  first_is_port n h = subst (λ ns. list_any (bytes_eq n) ns ≡ true) (append_assoc whole.inputs own extra)
      (list_any-left (bytes_eq n) (whole.inputs ++ own) extra h)

  pub part_inputs_ports : All IsPort part.inputs
  part_inputs_ports =
      All-weaker (λ n. not (is_among (whole.inputs ++ own) n) ≡ true → IsPort n) IsPort
      (λ n h. by_test (not (is_among (whole.inputs ++ own) n)) h (λ f. first_is_port n (not_false (is_among (whole.inputs ++ own) n) f))) part.inputs
      (All-from_filter IsPort (λ n. not (is_among (whole.inputs ++ own) n)) part.inputs extra_ports)

  pub whole_inputs_among : AreAmong bytes_eq whole.inputs (quotient_ports whole part)
  whole_inputs_among = recursion_from_All IsPort whole.inputs whole_inputs_ports

  pub part_inputs_among : AreAmong bytes_eq part.inputs (quotient_ports whole part)
  part_inputs_among = recursion_from_All IsPort part.inputs part_inputs_ports

  pub part_outputs_among : AreAmong bytes_eq part.outputs (quotient_names whole part)
  part_outputs_among = recursion_from_All IsName part.outputs (All-weaker (λ n. list_any (bytes_eq n) part.outputs ≡ true) IsName part_output_is_name
      part.outputs (itself part.outputs))

  pub whole_fits : FitsNames (quotient_names whole part) whole
  whole_fits = record {
    distinct = dw;
    among =
        recursion_from_All IsName (ports whole) (All-append IsName whole.inputs whole.outputs
        (All-weaker IsPort IsName port_is_name whole.inputs whole_inputs_ports) whole_outputs_names);
  }

  pub part_fits : FitsNames (quotient_names whole part) part
  part_fits = record {
    distinct = dp;
    among = recursion_from_All IsName (ports part) (All-append IsName part.inputs part.outputs
        (All-weaker IsPort IsName port_is_name part.inputs part_inputs_ports)
        (All-weaker (λ n. list_any (bytes_eq n) part.outputs ≡ true) IsName part_output_is_name part.outputs (itself part.outputs)));
  }
