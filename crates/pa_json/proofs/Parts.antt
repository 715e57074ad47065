-- Parts: their ports as lists, their wires, and that they are well-formed.
use Rattle.std.proofs.Common.{◌≡◌, ◌⊎◌, ℕ, ◌≤◌, List, [], ◌∷◌, ◌++◌, take, drop, length, sym, ap, ◌∙◌, subst, arith}
use Rattle.std.proofs.Common.{Option, Some, string_bytes, inl, inr}
use Rattle.std.specs.List.{IsDistinct}
use Rattle.std.specs.Str.{bytes_eq}
use Rattle.std.proofs.lemmas.List.{map-append, take_all, take-append-drop, length-take-le, length-append}
use Rattle.serde_json.specs.Data.{Data}
use Rattle.serde_json.specs.View.{view, members_view}
use Rattle.serde_json.proofs.Views.{Entry}
use Rattle.pa_meaning.specs.Rows.{Row}
use Rattle.pa_meaning.specs.Contracts.{Name, Contract, ports}
use Rattle.pa_names.specs.Names.{most_ports, first_names}
use Rattle.pa_names.specs.declared.fault.NameFault.{NameFault}
use Rattle.pa_names.specs.declared.fault.NameFault.TheVariants.{Taken, Memory}
use Rattle.pa_contract.specs.WellFormed.{IsWellFormed, IsRowList}
use Rattle.pa_json.proofs.Collected.{IsLeft, IsLeft-next}

-- all elements of a list, by their places
pub whole : {A : Type 0} (xs : List A) → drop 0 (take (length xs) xs) ≡ xs
whole xs = take_all (length xs) xs (omega arith)

-- the same rows fit as many other distinct ports
pub still_fits : (c : Contract) (names inputs outputs : List Name) (assumptions guarantees : List Row) → IsWellFormed c → IsDistinct bytes_eq names
    → length names ≡ length (ports c) → inputs ≡ take (length c.inputs) names → outputs ≡ drop (length c.inputs) names
    → assumptions ≡ c.assumptions → guarantees ≡ c.guarantees
    → IsWellFormed (record { inputs = inputs; outputs = outputs; assumptions = assumptions; guarantees = guarantees })
still_fits c names inputs outputs assumptions guarantees fits distinct each front rest first second =
    let same : inputs ++ outputs ≡ names =
    ap (λ xs. xs ++ outputs) front ∙ ap (λ ys. take (length c.inputs) names ++ ys) rest ∙ take-append-drop (length c.inputs) names in
    let all : length (inputs ++ outputs) ≡ length (ports c) = ap length same ∙ each in
    let within : length c.inputs ≤ length names = omega (arith, length-append c.inputs c.outputs, each) in
    let inner : length inputs ≡ length c.inputs = ap length front ∙ length-take-le (length c.inputs) names within in
    record {
      distinct = subst (IsDistinct bytes_eq) (sym same) distinct;
      few = subst (λ n. n ≤ most_ports) (sym all) fits.few;
      assumptions = subst (λ n. IsRowList n assumptions) (sym inner) (subst (IsRowList (length c.inputs)) (sym first) fits.assumptions);
      guarantees = subst (λ n. IsRowList n guarantees) (sym all) (subst (IsRowList (length (ports c))) (sym second) fits.guarantees);
    }

-- a list that was refused for a doubled name
pub repeats_where_taken : (D : Type 0) (fault : NameFault) → fault ≡ Taken → (fault ≡ Memory) ⊎ ((fault ≡ Taken) × (¬ D)) → ¬ D
repeats_where_taken D fault is (inl e) = absurd (let never : Taken ≡ Memory = sym is ∙ e in cc)
repeats_where_taken D fault is (inr found) = found.1

-- the members that are left, after one more
pub one_more : {X : Type 0} (f : List ℕ → Data → Option X) (done more : List X) (x : X) (k : List ℕ) (e : Entry) (es rest : List Entry) (due : Option (List X))
    → more ≡ done ++ x ∷ [] → k ≡ string_bytes e.0 → Some x ≡ f k (view e.1) → es ≡ e ∷ rest → IsLeft f done (members_view es) due
    → IsLeft f more (members_view rest) due
one_more f done more x k e es rest due pushed same is steps left =
    let found : f (string_bytes e.0) (view e.1) ≡ Some x = ap (λ k. f k (view e.1)) (sym same) ∙ sym is in
    let first : IsLeft f done (members_view (e ∷ rest)) due = subst (λ es. IsLeft f done (members_view es) due) steps left in
    subst (λ xs. IsLeft f xs (members_view rest) due) (sym pushed)
    (IsLeft-next f done x (string_bytes e.0) (view e.1) (members_view rest) due found first)

-- the ports of wires, with one more wire
pub firsts_more : (done more : List (Name × Name)) (wire : Name × Name) (ports next : List Name) → more ≡ done ++ wire ∷ [] → ports ≡ first_names done
    → next ≡ ports ++ wire.0 ∷ [] → next ≡ first_names more
firsts_more done more wire ports next pushed are is =
    is ∙ ap (λ ns. ns ++ wire.0 ∷ []) are ∙ sym (map-append (λ (w : Name × Name). w.0) done (wire ∷ [])) ∙ ap first_names (sym pushed)
