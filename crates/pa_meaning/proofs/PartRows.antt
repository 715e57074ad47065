-- The rows of a part over the names of a composition.
use Rattle.std.proofs.Common.{◌≡◌, ◌↔◌, sym, subst, true, List, map}
use Rattle.std.specs.List.{IsDistinct}
use Rattle.std.specs.Str.{bytes_eq}
use Rattle.std.proofs.lemmas.List.Elements.{All-map, All-weaker}
use lib.IntN.{◌*ℤ◌}
use lib.Signed.{◌≤ℤ◌}
use Rattle.pa_ring.proofs.Lists.{All-from_map}
use Rattle.pa_math.specs.Lists.{AreAmong}
use Rattle.pa_math.proofs.Unions.{All-parts, IsDistinct-left}
use Rattle.std.specs.List.{list_any}
use Rattle.pa_meaning.specs.Rows.{Row, Meets, MeetsAll}
use Rattle.pa_meaning.specs.Contracts.{Name, Contract, ports, Behaviour, point_over, over_names, MeetsAssumptions, MeetsGuarantees}
use Rattle.pa_meaning.specs.Composition.{assumptions_over, guarantees_over}
use Rattle.pa_meaning.proofs.NamedRows.{dot-over_names}

module _ (names wider : List Name) (v : Behaviour) (dn : IsDistinct bytes_eq names) (dw : IsDistinct bytes_eq wider) (among : AreAmong bytes_eq names wider)
  where
    -- a row over wider names says of a behaviour what the row says
    pub Meets-over_names : (r : Row) → Meets (over_names names wider r) (point_over wider v) ↔ Meets r (point_over names v)
    Meets-over_names r = (
      λ h. record { meets = subst (λ s. s ≤ℤ (r.b *ℤ v.den)) (dot-over_names v.value wider names r.c dw dn among) h.meets },
      λ h. record { meets = subst (λ s. s ≤ℤ (r.b *ℤ v.den)) (sym (dot-over_names v.value wider names r.c dw dn among)) h.meets },
    )

    pub MeetsAll-over_names : (rows : List Row) → MeetsAll (map (over_names names wider) rows) (point_over wider v) ↔ MeetsAll rows (point_over names v)
    MeetsAll-over_names rows = (
      λ h. All-weaker (λ r. Meets (over_names names wider r) (point_over wider v)) (λ r. Meets r (point_over names v)) (λ r. (Meets-over_names r).0) rows
          (All-from_map (λ r. Meets r (point_over wider v)) (over_names names wider) rows h),
      λ h. All-map (λ r. Meets r (point_over wider v)) (over_names names wider) rows
          (All-weaker (λ r. Meets r (point_over names v)) (λ r. Meets (over_names names wider r) (point_over wider v)) (λ r. (Meets-over_names r).1) rows h),
    )

-- the part's ports are different names, all among the names
pub record FitsNames (names : List Name) (p : Contract) : Type 0 where
  pub distinct : IsDistinct bytes_eq (ports p)
  pub among : AreAmong bytes_eq (ports p) names

module _ (names : List Name) (p : Contract) (v : Behaviour) (dn : IsDistinct bytes_eq names) (fits : FitsNames names p) where
  pub assumptions_met : MeetsAll (assumptions_over names p) (point_over names v) ↔ MeetsAssumptions p v
  assumptions_met =
      MeetsAll-over_names p.inputs names v (IsDistinct-left bytes_eq p.inputs p.outputs fits.distinct) dn
      (All-parts (λ n. list_any (bytes_eq n) names ≡ true) p.inputs p.outputs fits.among).0 p.assumptions

  pub guarantees_met : MeetsAll (guarantees_over names p) (point_over names v) ↔ MeetsGuarantees p v
  guarantees_met = MeetsAll-over_names (ports p) names v fits.distinct dn fits.among p.guarantees
