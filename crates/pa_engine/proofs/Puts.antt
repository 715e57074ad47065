-- A text that is put in several parts is put as one text: what was taken is a front of it, and at the end the whole.
use Rattle.std.proofs.Common.{◌≡◌, ℕ, ◌+◌, List, [], ◌++◌, take, length, refl, ap, sym, ◌∙◌, append_assoc, subst, arith, Option}
use Rattle.std.proofs.Common.{Result, Ok, Err}
use Rattle.std.specs.Prelude.{OnErr}
use Rattle.std.proofs.Math.Seq.{take-append-add}
use Rattle.std.proofs.lemmas.List.{take-append-le, length-append, append-nil}
use Rattle.pa_desk.specs.Taken.{with_bytes, TookPrefix}
use Rattle.pa_desk.proofs.Puts.{with_bytes-append, with_bytes-nothing}

-- a front of the first part is a front of the whole
pub prefix_within : (old new : Option (List ℕ)) (first rest : List ℕ) → TookPrefix old new first → TookPrefix old new (first ++ rest)
prefix_within old new first rest front =
    let (n, le, is) = front in
    let longer : length (first ++ rest) ≡ length first + length rest = length-append first rest in
    (n, omega arith, is ∙ ap (with_bytes old) (sym (take-append-le n first rest le)))

-- the first part whole and a front of the rest are a front of the whole
pub prefix_after : (old mid new : Option (List ℕ)) (first rest : List ℕ) → mid ≡ with_bytes old first → TookPrefix mid new rest
    → TookPrefix old new (first ++ rest)
prefix_after old mid new first rest whole front =
    let (n, le, is) = front in
    let longer : length (first ++ rest) ≡ length first + length rest = length-append first rest in (
      length first + n,
      omega arith,
      is ∙ ap (λ told. with_bytes told (take n rest)) whole ∙ with_bytes-append old first (take n rest)
          ∙ ap (with_bytes old) (sym (take-append-add first rest n)),
    )

-- both parts whole are the whole
pub both_parts : (old mid new : Option (List ℕ)) (first rest : List ℕ) → mid ≡ with_bytes old first → new ≡ with_bytes mid rest
    → new ≡ with_bytes old (first ++ rest)
both_parts old mid new first rest a b = b ∙ ap (λ told. with_bytes told rest) a ∙ with_bytes-append old first rest

-- where nothing more is put, nothing is a front
pub prefix_of_none : (old new : Option (List ℕ)) (text : List ℕ) → new ≡ old → TookPrefix old new text
prefix_of_none old new text same = (0, omega arith, same ∙ sym (with_bytes-nothing old))

-- what is put so far, and what the lines that are left add, is the whole
pub record IsUnderWay (old now : Option (List ℕ)) (whole rest : List ℕ) : Type 0 where
  pub done : List ℕ
  pub taken : now ≡ with_bytes old done
  pub makes : done ++ rest ≡ whole

pub begun : (old : Option (List ℕ)) (whole : List ℕ) → IsUnderWay old old whole whole
begun old whole = record { done = []; taken = sym (with_bytes-nothing old); makes = refl }

-- one more part is put
pub goes_on : (old now new : Option (List ℕ)) (whole piece rest : List ℕ) → IsUnderWay old now whole (piece ++ rest) → new ≡ with_bytes now piece
    → IsUnderWay old new whole rest
goes_on old now new whole piece rest u is = record {
  done = u.done ++ piece;
  taken = both_parts old now new u.done piece u.taken is;
  makes = append_assoc u.done piece rest ∙ u.makes;
}

-- a front of the next part is put
pub cut_off : (old now new : Option (List ℕ)) (whole piece rest : List ℕ) → IsUnderWay old now whole (piece ++ rest) → TookPrefix now new piece
    → TookPrefix old new whole
cut_off old now new whole piece rest u front =
    subst (TookPrefix old new) u.makes (prefix_after old now new u.done (piece ++ rest) u.taken (prefix_within now new piece rest front))

-- all parts are put
pub ended : (old now : Option (List ℕ)) (whole : List ℕ) → IsUnderWay old now whole [] → now ≡ with_bytes old whole
ended old now whole u = u.taken ∙ ap (with_bytes old) (sym (append-nil u.done) ∙ u.makes)

-- nothing more is put
pub stopped : (old now new : Option (List ℕ)) (whole rest : List ℕ) → IsUnderWay old now whole rest → new ≡ now → TookPrefix old new whole
stopped old now new whole rest u same =
    subst (TookPrefix old new) u.makes (prefix_after old now new u.done rest u.taken (prefix_of_none now new rest same))

-- what holds holds after a refusal
pub if_err : {T E : Type 0} {P : Type 0} (r : Result T E) → P → OnErr r P
if_err (Ok v) p = tt
if_err (Err e) p = p
