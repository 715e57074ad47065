-- Names are found among others one after another.
use Rattle.std.proofs.Common.{◌≡◌, ◌∙◌, ap, sym, refl, ℕ, ◌+◌, Bool, true, false, not, ◌&&◌, List, drop, Option, Some, None}
use Rattle.std.specs.Prelude.{position, slice_get}
use Rattle.std.specs.List.{list_all}
use Rattle.std.specs.Option.{is_none, is_some}
use Rattle.std.specs.Str.{bytes_eq}
use Rattle.pa_meaning.specs.Contracts.{Name}
use Rattle.pa_meaning.specs.Composition.{is_among}
use Rattle.pa_contract.proofs.Steps.{drop-slice_get, is_some-position}

none_not_some : (place : Option ℕ) → is_none place ≡ not (is_some place)
none_not_some None = refl
none_not_some (Some i) = refl

pub no_place : (ports : List Name) (name : Name) → is_none (position (bytes_eq name) ports) ≡ not (is_among ports name)
no_place ports name = none_not_some (position (bytes_eq name) ports) ∙ ap not (is_some-position (bytes_eq name) ports)

unturned : (b : Bool) → not b ≡ false → b ≡ true
unturned true h = refl
unturned false h = absurd (cc)

turned : (b : Bool) → not b ≡ true → b ≡ false
turned true h = absurd (cc)
turned false h = refl

module _ {A : Type 0} (p : A → Bool) (xs : List A) where
  -- an element that passes changes nothing for the rest
  pub all_passed : (i : ℕ) (x : A) → slice_get xs i ≡ Some x → not (p x) ≡ false → list_all p (drop i xs) ≡ list_all p xs
      → list_all p (drop (i + 1) xs) ≡ list_all p xs
  all_passed i x found passes so_far =
      sym (ap (list_all p) (drop-slice_get xs i x found) ∙ ap (λ b. b && list_all p (drop (i + 1) xs)) (unturned (p x) passes)) ∙ so_far

  -- one that fails decides
  pub all_failed : (i : ℕ) (x : A) → slice_get xs i ≡ Some x → not (p x) ≡ true → list_all p (drop i xs) ≡ list_all p xs → false ≡ list_all p xs
  all_failed i x found fails so_far =
      sym (ap (list_all p) (drop-slice_get xs i x found) ∙ ap (λ b. b && list_all p (drop (i + 1) xs)) (turned (p x) fails)) ∙ so_far
