-- Upgrades: the items that are left, and what the answer says of the text.
use Rattle.std.proofs.Common.{◌≡◌, ℕ, ◌+◌, ◌<◌, ◌≤◌, List, [], ◌∷◌, ◌++◌, map, drop, length, get_or}
use Rattle.std.proofs.Common.{refl, sym, ap, ◌∙◌}
use Rattle.std.proofs.lemmas.List.{drop_more, drop_all, map-append}
use Rattle.serde_json.specs.Data.{Data, item}
use Rattle.serde_json.specs.View.{view, items_of, items_view}
use Rattle.serde_json.specs.declared.value.Value.{Value}
use Rattle.pa_json.specs.Upgrades.{plain, each_plain}
use Rattle.pa_json.specs.declared.upgrading.Item.{Item}
use Rattle.pa_json.proofs.Steps.{pushed_more, mapped_end}

-- after one more item
pub plain_more : (o : Item) (done more : List Value) (made v : Value) (values : List Value) (i : ℕ) (all : List Data) → i < length values
    → v ≡ get_or values i v
    → view made ≡ plain o (view v) → more ≡ done ++ made ∷ [] → map view done ++ map (λ v. plain o (view v)) (drop i values) ≡ all
    → map view more ++ map (λ v. plain o (view v)) (drop (i + 1) values) ≡ all
plain_more o done more made v values i all within is same pushed so_far =
    let here : drop i values ≡ v ∷ drop (i + 1) values = drop_more values i v within ∙ ap (λ x. x ∷ drop (i + 1) values) (sym is) in
    ap (λ list. list ++ map (λ v. plain o (view v)) (drop (i + 1) values))
    (ap (map view) pushed ∙ map-append view done (made ∷ []) ∙ ap (λ d. map view done ++ d ∷ []) same)
    ∙ pushed_more (λ v. plain o (view v)) (map view done) all (drop i values) (drop (i + 1) values) v here so_far

each_view : (o : Item) (values : List Value) → items_of (map (λ v. plain o (view v)) values) ≡ each_plain o (items_view values)
each_view o [] = refl
each_view o (v ∷ vs) = ap (item (plain o (view v))) (each_view o vs)

-- at the end
pub plain_all : (o : Item) (done values : List Value) (i : ℕ) → length values ≤ i
    → map view done ++ map (λ v. plain o (view v)) (drop i values) ≡ map (λ v. plain o (view v)) values → items_view done ≡ each_plain o (items_view values)
plain_all o done values i past so_far =
    ap items_of (mapped_end (λ v. plain o (view v)) (map view done) (map (λ v. plain o (view v)) values) (drop i values) (drop_all i values past) so_far)
    ∙ each_view o values
