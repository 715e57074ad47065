-- The internal outputs of a composition: their columns, each where it stands when its turn comes, are the places of their names. The outputs that are kept
-- are outputs, and to keep these once more keeps no others.
use Rattle.std.proofs.Common.{◌≡◌, refl, sym, ap, ap₂, ◌∙◌, subst, Bool, true, false, cond, not, ◌&&◌, ◌||◌, ℕ}
use Rattle.std.proofs.Common.{◌≤◌, nat_lt, sum_by, append_assoc, All, arith, List, [], ◌∷◌, ◌++◌, length, filter}
use Rattle.std.proofs.Common.{Option, None, Some, option_map, Ok, Err}
use Rattle.std.specs.List.{IsDistinct}
use Rattle.std.specs.Str.{bytes_eq}
use Rattle.pa_math.specs.Answers.{given}
use Rattle.pa_math.proofs.Answers.{ok_same}
use Rattle.pa_meaning.specs.Contracts.{Name, Contract}
use Rattle.pa_meaning.specs.Composition.{is_among, is_kept, all_inputs, all_outputs, external_inputs, kept_outputs, internal_outputs, names_of}
use Rattle.pa_meaning.proofs.CompositionPorts.{names_distinct}
use Rattle.pa_witness.specs.Projection.{AreThere}
use Rattle.pa_witness.proofs.NamesLeft.{go_there, new_there}
use Rattle.pa_witness.proofs.NamedColumns.{places_for}
use Rattle.pa_holds.specs.Refusals.{or_due, first_missing, first_repeat, due_compose}
use Rattle.pa_holds.proofs.Refusals.{none_repeated}
use Rattle.pa_names.specs.Names.{most_ports}
use Rattle.pa_contract.specs.Merge.{row_count, most_rows}
use Rattle.pa_contract.specs.WellFormed.{IsWellFormed}
use Rattle.pa_cert.specs.declared.refusal.NameRefusal.TheVariants.{PortClash, NotOutput, Variables, Rows}
use Rattle.pa_elim.specs.Projecting.{in_turn}
use Rattle.pa_elim.specs.Meant.{AreColumns}
use Rattle.pa_elim.specs.Seen.{AreInTurn}
use Rattle.pa_parts.specs.Composing.{Ports, composite_ports, ports_of}
use Rattle.pa_parts.proofs.Passing.{and_true, among_passing, same_passing, passing_among, none_passing}
use Rattle.pa_parts.specs.declared.fault.PortsFault.TheVariants as naming
use Rattle.pa_compose.specs.Composing.{columns_in}
use Rattle.pa_compose.specs.Seen.{CanCompose}
use Rattle.pa_compose.proofs.Columns.{turns_behind, columns_behind, there_in_turn}

module _ (parts : List Contract) (keep : List Name) where
  -- ---- internal outputs
  internal_among : filter (is_among (internal_outputs parts keep)) (all_outputs parts) ≡ internal_outputs parts keep
  internal_among = passing_among (λ n. not (is_kept parts keep n)) (all_outputs parts)

  pub internal_in_turn : IsDistinct bytes_eq (all_outputs parts)
      → in_turn (columns_in (composite_ports parts keep)) ≡ places_for (names_of parts) (internal_outputs parts keep)
  internal_in_turn apart =
      turns_behind (internal_outputs parts keep) (external_inputs parts) (all_outputs parts) (names_distinct parts apart)
      ∙ ap (places_for (names_of parts)) internal_among

  pub internal_there : IsDistinct bytes_eq (all_outputs parts) → AreThere (names_of parts) (internal_outputs parts keep)
  internal_there apart =
      go_there (is_kept parts keep) (λ n. not (is_kept parts keep n)) (λ n. refl) (external_inputs parts) (all_outputs parts) (names_distinct parts apart)

  pub internal_columns : AreColumns (length (names_of parts)) (columns_in (composite_ports parts keep))
  internal_columns = columns_behind (internal_outputs parts keep) (external_inputs parts) (all_outputs parts)

  pub internal_turns : IsDistinct bytes_eq (all_outputs parts) → AreInTurn (length (names_of parts)) (in_turn (columns_in (composite_ports parts keep)))
  internal_turns apart = subst (AreInTurn (length (names_of parts))) (sym (internal_in_turn apart))
      (there_in_turn (names_of parts) (internal_outputs parts keep) (internal_there apart))

  -- ---- outputs that are kept, to be kept
  abbrev kept : List Name
  kept = kept_outputs parts keep

  kept_twice : (a k : Bool) → (a || (a || k)) ≡ (a || k)
  kept_twice true k = refl
  kept_twice false k = refl

  still_kept : (n : Name) → is_among (all_outputs parts) n ≡ true → is_kept parts kept n ≡ is_kept parts keep n
  still_kept n there =
      ap (λ b. not (is_among (all_inputs parts) n) || b)
      (among_passing (is_kept parts keep) n (all_outputs parts) ∙ ap (λ b. is_kept parts keep n && b) there ∙ and_true (is_kept parts keep n))
      ∙ kept_twice (not (is_among (all_inputs parts) n)) (is_among keep n)

  pub kept_kept : composite_ports parts keep ≡ composite_ports parts kept
  kept_kept = ap₂ (λ (k i : List Name). record { external = external_inputs parts; outputs = all_outputs parts; kept = k; internal = i })
      (sym (same_passing (is_kept parts kept) (is_kept parts keep) (all_outputs parts) still_kept))
      (sym (same_passing (λ n. not (is_kept parts kept n)) (λ n. not (is_kept parts keep n)) (all_outputs parts) (λ n there. ap not (still_kept n there))))

  pub kept_known : first_missing (all_outputs parts) kept ≡ None
  kept_known = none_passing (is_kept parts keep) (all_outputs parts) (all_outputs parts) (λ n there. there)

-- ---- where no name is refused
-- names of which none stands twice repeat none
none_again : (before ns : List Name) → IsDistinct bytes_eq (before ++ ns) → first_repeat before ns ≡ None
none_again before [] d = refl
none_again before (n ∷ ns) d =
    ap (λ b. cond b (Some n) (first_repeat (before ++ n ∷ []) ns)) (new_there before ns n d)
    ∙ none_again (before ++ n ∷ []) ns (subst (IsDistinct bytes_eq) (sym (append_assoc before (n ∷ []) ns)) d)

no_test_due : (repeat missing : Option Name) (wide long : Bool) (n k : ℕ) → repeat ≡ None → missing ≡ None → wide ≡ false → long ≡ false
    → or_due (option_map PortClash repeat) (or_due (option_map NotOutput missing)
    (or_due (cond wide (Some (Variables n)) None) (cond long (Some (Rows k)) None))) ≡ None
no_test_due None None false false n k r m w l = refl
no_test_due None None false true n k r m w l = absurd (cc)
no_test_due None None true long n k r m w l = absurd (cc)
no_test_due None (Some name) wide long n k r m w l = absurd (cc)
no_test_due (Some name) missing wide long n k r m w l = absurd (cc)

pub none_due : (parts : List Contract) (keep : List Name) → IsDistinct bytes_eq (all_outputs parts) → first_missing (all_outputs parts) keep ≡ None
    → length (names_of parts) ≤ 128 → sum_by row_count parts ≤ 4096 → due_compose parts keep ≡ None
none_due parts keep apart known short few =
    no_test_due (first_repeat [] (all_outputs parts)) (first_missing (all_outputs parts) keep) (nat_lt most_ports (length (names_of parts)))
    (nat_lt most_rows (sum_by row_count parts)) (length (names_of parts)) (sum_by row_count parts) (none_again [] (all_outputs parts) apart) known
    (grind (arith)) (grind (arith))

ports_tell : (parts : List Contract) (keep : List Name) (names : Ports) (repeat missing : Option Name) (wide : Bool)
    → first_repeat [] (all_outputs parts) ≡ repeat → nat_lt most_ports (length (names_of parts)) ≡ wide
    → given (given (cond wide (Err (naming.VariableLimit (length (names_of parts)))) (Ok (composite_ports parts keep))) missing
    (λ name. Err (naming.NotOutput name))) repeat (λ name. Err (naming.PortClash name)) ≡ Ok names
    → (names ≡ composite_ports parts keep) × IsDistinct bytes_eq (all_outputs parts) × (length (names_of parts) ≤ 128)
ports_tell parts keep names (Some name) missing wide again over h = absurd (cc)
ports_tell parts keep names None (Some name) wide again over h = absurd (cc)
ports_tell parts keep names None None true again over h = absurd (cc)
ports_tell parts keep names None None false again over h =
    (sym (ok_same (composite_ports parts keep) names h), none_repeated (all_outputs parts) again, grind (arith))

-- what the names of a composition tell of its parts
pub can_compose : (parts : List Contract) (keep : List Name) (names : Ports) → ports_of parts keep ≡ Ok names → length parts ≤ 32
    → sum_by row_count parts ≤ 4096 → All IsWellFormed parts → CanCompose parts keep names
can_compose parts keep names is few_parts few formed =
    let (ports, apart, short) = ports_tell parts keep names (first_repeat [] (all_outputs parts)) (first_missing (all_outputs parts) keep)
    (nat_lt most_ports (length (names_of parts))) refl refl is in
    record { ports = ports; apart = apart; short = short; few_parts = few_parts; few = few; formed = formed }
