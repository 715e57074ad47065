-- Which refusal of the names is due: an output that an earlier part has too, a kept name that is no output, more names than there may be; and the ports where
-- none is.
use Rattle.std.proofs.Common.{◌≡◌, ◌⊎◌, inl, inr, refl, sym, ap, ap₂, ◌∙◌, ◌≤◌, ◌<◌, ◌+◌, Bool, true, false, cond, nat_lt, List, [], ◌∷◌, ◌++◌, length}
use Rattle.std.proofs.Common.{Option, None, Some, Result, Ok, Err, append_assoc, length-append, arith}
use Rattle.std.proofs.lemmas.List.{append-nil}
use Rattle.pa_math.specs.Answers.{IsAnswer, given}
use Rattle.pa_math.proofs.Answers.{ok_same}
use Rattle.pa_meaning.specs.Contracts.{Name, Contract}
use Rattle.pa_meaning.specs.Composition.{is_among, is_kept, all_outputs, external_inputs, names_of}
use Rattle.pa_names.specs.Names.{most_ports}
use Rattle.pa_holds.specs.Refusals.{first_missing, first_repeat}
use Rattle.pa_parts.specs.declared.fault.PortsFault.{PortsFault}
use Rattle.pa_parts.specs.declared.fault.PortsFault.TheVariants as fault
use Rattle.pa_parts.specs.Composing.{Ports, composite_ports, ports_of}
use Rattle.pa_parts.specs.Seen.{outputs_more, outputs_of, selected}

-- the outputs are all there where none of them repeats an earlier one
outputs_known : (names ns : List Name) → outputs_more names ns ≡ given (Ok (names ++ ns)) (first_repeat names ns) (λ n. Err (fault.PortClash n))
outputs_known names [] = ap Ok (sym (append-nil names))
outputs_known names (n ∷ ns) =
    by (is_among names n) (outputs_known (names ++ n ∷ []) ns
    ∙ ap (λ (all : List Name). given (Ok all) (first_repeat (names ++ n ∷ []) ns) (λ n. Err (fault.PortClash n))) (append_assoc names (n ∷ []) ns))
  where
    by : (b : Bool) → outputs_more (names ++ n ∷ []) ns
        ≡ given (Ok (names ++ n ∷ ns)) (first_repeat (names ++ n ∷ []) ns) (λ n. Err (fault.PortClash n))
        → cond b (Err (fault.PortClash n)) (outputs_more (names ++ n ∷ []) ns)
        ≡ given (Ok (names ++ n ∷ ns)) (cond b (Some n) (first_repeat (names ++ n ∷ []) ns)) (λ n. Err (fault.PortClash n))
    by true rest = refl
    by false rest = rest

module _ (parts : List Contract) (keep : List Name) where
  abbrev all : List Name
  all = all_outputs parts

  -- what is due once no output stands twice
  abbrev due_by : Option Name → Result Ports PortsFault
  due_by missing = given
      (cond (nat_lt most_ports (length (names_of parts))) (Err (fault.VariableLimit (length (names_of parts)))) (Ok (composite_ports parts keep)))
      missing (λ name. Err (fault.NotOutput name))

  abbrev due : Result Ports PortsFault
  due = due_by (first_missing all keep)

  outputs_refused : (e : PortsFault) → outputs_of parts ≡ Err e → ports_of parts keep ≡ Err e
  outputs_refused e is = by (first_repeat [] all) (sym (outputs_known [] all) ∙ is)
    where
      by : (r : Option Name) → given (Ok all) r (λ n. Err (fault.PortClash n)) ≡ Err e → given due r (λ n. Err (fault.PortClash n)) ≡ Err e
      by None h = absurd (cc)
      by (Some n) h = cc

  pub outputs_told : (e : PortsFault) → (e ≡ fault.Memory) ⊎ (outputs_of parts ≡ Err e) → IsAnswer fault.Memory (ports_of parts keep) (Err e)
  outputs_told e (inl free) = inl free
  outputs_told e (inr is) = inr (outputs_refused e is)

  module _ (outputs : List Name) (is : outputs_of parts ≡ Ok outputs) where
    there : (outputs ≡ all) × (first_repeat [] all ≡ None)
    there = by (first_repeat [] all) refl (sym (outputs_known [] all) ∙ is)
      where
        by : (r : Option Name) → first_repeat [] all ≡ r → given (Ok all) r (λ n. Err (fault.PortClash n)) ≡ Ok outputs
            → (outputs ≡ all) × (first_repeat [] all ≡ None)
        by None none h = (sym (ok_same all outputs h), none)
        by (Some n) none h = absurd (cc)

    pub outputs_there : outputs ≡ all_outputs parts
    outputs_there = there.0

    by_missing : (m : Option Name) → first_missing outputs keep ≡ m → ports_of parts keep ≡ due_by m
    by_missing m h =
        ap (λ r. given due r (λ n. Err (fault.PortClash n))) there.1 ∙ ap due_by (ap (λ ns. first_missing ns keep) (sym there.0) ∙ h)

    pub name_missing : (n : Name) (e : PortsFault) → first_missing outputs keep ≡ Some n → (e ≡ fault.NotOutput n) ⊎ (e ≡ fault.Memory)
        → IsAnswer fault.Memory (ports_of parts keep) (Err e)
    name_missing n e missing (inl is) = inr (by_missing (Some n) missing ∙ ap Err (sym is))
    name_missing n e missing (inr free) = inl free

    names_counted : (ports : Ports) → ports ≡ composite_ports parts keep → length ports.external + length ports.outputs ≡ length (names_of parts)
    names_counted ports are =
        ap (λ (p : Ports). length p.external + length p.outputs) are ∙ sym (length-append (external_inputs parts) all)

    pub names_many : first_missing outputs keep ≡ None → (ports : Ports) → ports ≡ composite_ports parts keep
        → 128 < length ports.external + length ports.outputs → ports_of parts keep ≡ Err (fault.VariableLimit (length ports.external + length ports.outputs))
    names_many none ports are many =
        let counted = names_counted ports are in
        let over : nat_lt most_ports (length (names_of parts)) ≡ true = grind (arith) in
        by_missing None none
        ∙ ap₂ (λ b n. cond b (Err (fault.VariableLimit n)) (Ok (composite_ports parts keep))) over (sym counted)

    pub names_fit : first_missing outputs keep ≡ None → (ports : Ports) → ports ≡ composite_ports parts keep
        → length ports.external + length ports.outputs ≤ 128 → ports_of parts keep ≡ Ok ports
    names_fit none ports are few =
        let counted = names_counted ports are in
        let within : nat_lt most_ports (length (names_of parts)) ≡ false = grind (arith) in
        by_missing None none
        ∙ ap₂ (λ b (ps : Ports). cond b (Err (fault.VariableLimit (length (names_of parts)))) (Ok ps)) within (sym are)

  -- the ports by the outputs
  pub ports_are : (external outputs kept internal : List Name) → outputs ≡ all_outputs parts → external ≡ external_inputs parts
      → kept ≡ selected true (is_kept parts keep) outputs → internal ≡ selected false (is_kept parts keep) outputs
      → (let ports : Ports = record { external = external; outputs = outputs; kept = kept; internal = internal } in ports) ≡ composite_ports parts keep
  ports_are external outputs kept internal o e k i =
      ap₂ (λ (e o : List Name). record { external = e; outputs = o; kept = kept; internal = internal }) e o
      ∙ ap₂ (λ (k i : List Name). record { external = external_inputs parts; outputs = all; kept = k; internal = i })
      (k ∙ ap (λ (ns : List Name). selected true (is_kept parts keep) ns) o) (i ∙ ap (λ (ns : List Name). selected false (is_kept parts keep) ns) o)
