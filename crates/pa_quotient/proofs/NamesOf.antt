-- The names of a quotient: where no two of two lists are equal, their union is one behind the other.
use Rattle.std.proofs.Common.{◌≡◌, sym, ap, ap₂, subst, subst₂, ◌∙◌, append_assoc, append-nil, Bool, true, false, not, cond, nat_le, List, [], ◌∷◌}
use Rattle.std.proofs.Common.{◌++◌, length, filter, Result, Ok, Err}
use Rattle.std.proofs.lemmas.Cmp.{nat_list_eq_equiv}
use Rattle.std.specs.List.{IsDistinct, list_any}
use Rattle.std.specs.Str.{bytes_eq}
use Rattle.pa_math.specs.Lists.{union}
use Rattle.pa_math.proofs.Answers.{ok_same}
use Rattle.pa_math.proofs.Unions.{AreApart-flip, IsDistinct-apart, IsDistinct-left, IsDistinct-right}
use Rattle.pa_names.specs.Names.{names_without, union_of, most_names}
use Rattle.pa_names.specs.declared.fault.NameFault.{NameFault}
use Rattle.pa_names.specs.declared.fault.NameFault.TheVariants.{Limit}
use Rattle.pa_meaning.specs.Contracts.{Name, Contract}
use Rattle.pa_meaning.specs.Composition.{is_among}
use Rattle.pa_meaning.specs.Quotient.{other_outputs, quotient_outputs, quotient_ports}

union_appends : (xs ys : List Name) → IsDistinct bytes_eq (xs ++ ys) → union bytes_eq xs ys ≡ xs ++ ys
union_appends xs [] d = sym (append-nil xs)
union_appends xs (y ∷ ys) d =
    let new : list_any (bytes_eq y) xs ≡ false = (AreApart-flip bytes_eq nat_list_eq_equiv xs (y ∷ ys) (IsDistinct-apart bytes_eq xs (y ∷ ys) d)).0 in
    ap (λ b. union bytes_eq (cond b xs (xs ++ y ∷ [])) ys) new
    ∙ union_appends (xs ++ y ∷ []) ys (subst (IsDistinct bytes_eq) (sym (append_assoc xs (y ∷ []) ys)) d)
    ∙ append_assoc xs (y ∷ []) ys

pub union_of_different : (xs ys names : List Name) → IsDistinct bytes_eq (xs ++ ys) → union_of xs ys ≡ Ok names → names ≡ xs ++ ys
union_of_different xs ys names d is = by (nat_le (length (union bytes_eq xs ys)) most_names) is ∙ union_appends xs ys d
  where
    by : (b : Bool) → cond b (Ok (union bytes_eq xs ys)) (Err Limit) ≡ Ok names → names ≡ union bytes_eq xs ys
    by true h = sym (ok_same (union bytes_eq xs ys) names h)
    by false h = absurd (cc)

-- of three lists without equal names, the first two and the last two have none either
pub first_two : (xs ys zs : List Name) → IsDistinct bytes_eq (xs ++ (ys ++ zs)) → IsDistinct bytes_eq (xs ++ ys)
first_two xs ys zs d = IsDistinct-left bytes_eq (xs ++ ys) zs (subst (IsDistinct bytes_eq) (sym (append_assoc xs ys zs)) d)

pub last_two : (xs ys : List Name) → IsDistinct bytes_eq (xs ++ ys) → IsDistinct bytes_eq ys
last_two xs ys d = IsDistinct-right bytes_eq xs ys d

-- ---- of the two contracts
module _ (whole part : Contract) where
  -- the outputs of the whole that the part does not make
  pub own_is : (outputs others own : List Name) → outputs ≡ whole.outputs → others ≡ part.outputs
      → (let r : Result (List Name) NameFault = Ok (names_without outputs others) in r) ≡ Ok own → own ≡ other_outputs whole part
  own_is outputs others own mine theirs is =
      sym (ok_same (names_without outputs others) own is) ∙ ap₂ (λ xs ys. names_without xs ys) mine theirs

  -- the part's inputs that are no ports yet
  pub new_is : (inputs first new : List Name) → inputs ≡ part.inputs → first ≡ whole.inputs ++ other_outputs whole part
      → (let r : Result (List Name) NameFault = Ok (names_without inputs first) in r) ≡ Ok new
      → new ≡ filter (λ name. not (is_among (whole.inputs ++ other_outputs whole part) name)) part.inputs
  new_is inputs first new mine before is =
      sym (ok_same (names_without inputs first) new is) ∙ ap₂ (λ xs ys. names_without xs ys) mine before

  pub first_different : (inputs own : List Name) → inputs ≡ whole.inputs → own ≡ other_outputs whole part → IsDistinct bytes_eq (quotient_ports whole part)
      → IsDistinct bytes_eq (inputs ++ own)
  first_different inputs own mine is d =
      subst₂ (λ xs ys. IsDistinct bytes_eq (xs ++ ys)) (sym mine) (sym is)
      (first_two whole.inputs (other_outputs whole part) (filter (λ name. not (is_among (whole.inputs ++ other_outputs whole part) name)) part.inputs) d)

  pub outputs_different : (own new : List Name) → own ≡ other_outputs whole part
      → new ≡ filter (λ name. not (is_among (whole.inputs ++ other_outputs whole part) name)) part.inputs → IsDistinct bytes_eq (quotient_ports whole part)
      → IsDistinct bytes_eq (own ++ new)
  outputs_different own new is more d =
      subst₂ (λ xs ys. IsDistinct bytes_eq (xs ++ ys)) (sym is) (sym more) (last_two whole.inputs (quotient_outputs whole part) d)
