-- What an elimination of the guarantees shows is what is printed of hidden outputs, and what that means.
use Rattle.std.proofs.Common.{◌≡◌, refl, sym, ap, ap₂, ◌∙◌, subst, ℕ, suc, ◌+◌, List, [], ◌∷◌, ◌++◌, append_assoc, add-one, length, length-append, map, not}
use Rattle.std.proofs.Common.{Bool, true, false, None, Some, ◌≤◌, arith}
use Rattle.std.proofs.lemmas.List.{length-map}
use Rattle.std.proofs.lemmas.List.Elements.{All-nil, All-cons}
use Rattle.std.specs.List.{IsDistinct}
use Rattle.std.specs.Str.{bytes_eq}
use Rattle.pa_meaning.specs.Rows.{Row}
use Rattle.pa_meaning.specs.Contracts.{Name, Contract, ports}
use Rattle.pa_meaning.specs.Composition.{is_among, IsHidden}
use Rattle.pa_witness.specs.Certificates.{Step}
use Rattle.pa_witness.specs.Thinning.{thinned}
use Rattle.pa_witness.specs.Steps.{Two}
use Rattle.pa_witness.specs.Projection.{AreThere, StepsHold, projected}
use Rattle.pa_witness.proofs.Fewer.{steps_match}
use Rattle.pa_witness.proofs.NamedColumns.{places_for, projected_by_columns, steps_by_columns}
use Rattle.pa_witness.proofs.NamesLeft.{go_there}
use Rattle.pa_contract.specs.WellFormed.{IsWellFormed}
use Rattle.pa_farkas.proofs.Filters.{read_there}
use Rattle.pa_cert.specs.Lists.{HiddenAnswer}
use Rattle.pa_cert.specs.declared.answer.Answer.TheVariants.{Hidden}
use Rattle.pa_holds.specs.Composed.{AreNamed, EliminationHolds, HoldsAsHidden, eliminated_rows, elimination_of}
use Rattle.pa_holds.specs.Questions.{Hiding}
use Rattle.pa_holds.specs.Refusals.{due_hide}
use Rattle.pa_holds.proofs.Composed.{hidden_is_true}
use Rattle.pa_holds.proofs.WellFormed.{printed_is_well_formed}
use Rattle.pa_elim.specs.Projecting.{Projection, in_turn}
use Rattle.pa_elim.specs.Meant.{HoldsAsProjected, StepsAreShown, drops_of, rows_by}
use Rattle.pa_compose.specs.Hiding.{hidden_by, hidden_columns, hidden_names, named_steps, without_outputs}
use Rattle.pa_compose.proofs.Columns.{columns_in_turn}

twice : (b : Bool) → b ≡ not (not b)
twice true = refl
twice false = refl

-- the outputs that go are there
pub hidden_there : (c : Contract) (names : List Name) → IsDistinct bytes_eq (ports c) → AreThere (ports c) (hidden_names c names)
hidden_there c names d = go_there (λ n. not (is_among names n)) (is_among names) (λ n. twice (is_among names n)) c.inputs c.outputs d

-- ---- the names of the steps
steps_drops : (gone : List Name) (i : ℕ) (steps : List Step) → map (λ s. s.drops) (named_steps gone i steps) ≡ drops_of steps
steps_drops gone i [] = refl
steps_drops gone i (s ∷ steps) = ap (λ rest. s.drops ∷ rest) (steps_drops gone (suc i) steps)

-- there is a step for each name of the rest
rest_named : (before rest : List Name) (steps : List Step) → length steps ≡ length rest
    → map (λ s. s.name) (named_steps (before ++ rest) (suc (length before)) steps) ≡ map Some rest
rest_named before [] [] same = refl
rest_named before [] (s ∷ steps) same = absurd (cc)
rest_named before (n ∷ rest) [] same = absurd (cc)
rest_named before (n ∷ rest) (s ∷ steps) same =
    ap₂ ◌∷◌ (ap Some (read_there before n rest (length before) [] refl))
    (ap (λ names. map (λ t. t.name) (named_steps names (suc (suc (length before))) steps)) (sym (append_assoc before (n ∷ []) rest))
    ∙ ap (λ i. map (λ t. t.name) (named_steps ((before ++ n ∷ []) ++ rest) (suc i) steps)) (sym (length-append before (n ∷ []) ∙ add-one (length before)))
    ∙ rest_named (before ++ n ∷ []) rest steps (omega (arith, same)))

pub steps_named : (gone : List Name) (s : Step) (steps : List Step) → length steps ≡ length gone → AreNamed gone (named_steps gone 0 (s ∷ steps))
steps_named gone s steps same = ap (λ rest. None ∷ rest) (rest_named [] gone steps same)

-- ---- what is printed
-- the names of the steps and their drops, as they are printed, and the rows that they leave
pub record IsPrinted (limit : ℕ) (names : List Name) (rows : List Row) (gone : List Name) (p : Projection) : Type 0 where
  pub count : length p.steps ≡ length gone + 1
  pub named : AreNamed gone (named_steps gone 0 p.steps)
  pub elimination : EliminationHolds Two limit names rows gone (elimination_of (named_steps gone 0 p.steps))
  pub left : p.rows ≡ eliminated_rows Two names rows gone (elimination_of (named_steps gone 0 p.steps))

module _ (limit : ℕ) (names : List Name) (rows : List Row) (gone : List Name) (there : AreThere names gone) where
  printed_by : (new : List Row) (steps : List Step) → StepsAreShown limit (length names) rows (places_for names gone) steps
      → new ≡ rows_by (length names) rows (places_for names gone) steps
      → IsPrinted limit names rows gone (record { rows = new; steps = steps })
  printed_by new [] shown left = absurd shown
  printed_by new (s ∷ steps) shown left =
      let first : List Row = thinned (length names) rows s.drops in
      let drops : map (λ t. t.drops) (named_steps gone 1 steps) ≡ drops_of steps = steps_drops gone 1 steps in
      let hold = steps_by_columns Two limit names first gone (drops_of steps) there shown.1 in
      let same : length steps ≡ length gone =
      sym (length-map steps (λ t. t.drops)) ∙ steps_match Two limit names first gone (drops_of steps) hold in
      record {
        count = omega (arith, same);
        named = steps_named gone s steps same;
        elimination = record { first = shown.0; steps = subst (StepsHold Two limit names first gone) (sym drops) hold };
        left = left ∙ sym (projected_by_columns Two names first gone (drops_of steps) there) ∙ ap (projected Two names first gone) (sym drops);
      }

  -- what holds of columns is printed of their names
  pub is_printed : (p : Projection) → HoldsAsProjected limit (length names) rows (places_for names gone) p → IsPrinted limit names rows gone p
  is_printed p h = printed_by p.rows p.steps h.steps h.left

-- ---- hidden outputs
module _ (c : Contract) (names : List Name) (limit : ℕ) (w : IsWellFormed c) where
  pub hidden_printed : (p : Projection) → HoldsAsProjected limit (length (ports c)) c.guarantees (in_turn (hidden_columns c names)) p
      → HoldsAsHidden Two limit c names (hidden_by c names p)
  hidden_printed p h =
      let printed = is_printed limit (ports c) c.guarantees (hidden_names c names) (hidden_there c names w.distinct) p
      (subst (λ ks. HoldsAsProjected limit (length (ports c)) c.guarantees ks p) (columns_in_turn names c w.distinct) h) in
      record { named = printed.named; elimination = printed.elimination; contract = ap (without_outputs c names) printed.left }

  -- what holds as it is printed is hidden
  pub hidden_true : (a : HiddenAnswer) → HoldsAsHidden Two limit c names a → IsHidden c names a.contract
  hidden_true a h = hidden_is_true Two limit c names a w.distinct h

  -- what was asked over as many columns as the contract has ports
  pub at_ports : (n : ℕ) (rows : List Row) (ks : List ℕ) (p : Projection) → n ≡ length (ports c) → rows ≡ c.guarantees → ks ≡ hidden_columns c names
      → HoldsAsProjected limit n rows (in_turn ks) p → HoldsAsProjected limit (length (ports c)) c.guarantees (in_turn (hidden_columns c names)) p
  at_ports n rows ks p wide given gone h =
      subst (λ m. HoldsAsProjected limit m c.guarantees (in_turn (hidden_columns c names)) p) wide
      (subst (λ rs. HoldsAsProjected limit n rs (in_turn (hidden_columns c names)) p) given
      (subst (λ js. HoldsAsProjected limit n rows (in_turn js) p) gone h))

  pub hidden_formed : (p : Projection) → limit ≤ 4096 → due_hide c names ≡ None → HoldsAsHidden Two limit c names (hidden_by c names p)
      → IsWellFormed (without_outputs c names p.rows)
  hidden_formed p small none h =
      printed_is_well_formed Two (record { rows = limit; pivots = limit }) (Hiding c names) (Hidden (hidden_by c names p)) (without_outputs c names p.rows)
      small (All-cons IsWellFormed c [] w (All-nil IsWellFormed)) (none, h) refl
