-- A row over wider names: its sum at a behaviour is the row's own.
use Rattle.std.proofs.Common.{◌≡◌, Bool, true, false, ◌||◌, cond, List, [], ◌∷◌, map, refl, sym, ap, ◌∙◌, ℤ, pos, ◌+ℤ◌, ◌*ℤ◌, subst, arith}
use Rattle.std.proofs.lemmas.Int.{ints}
use Rattle.std.specs.List.{list_any, IsDistinct, AllByRecursion}
use Rattle.std.specs.Str.{bytes_eq}
use Rattle.std.proofs.lemmas.Slice.Eq.{bytes_eq-Decides}
use Rattle.std.proofs.lemmas.Map.Keys.{IsDistinct-head, IsDistinct-tail}
use Rattle.std.proofs.lemmas.Cmp.{nat_list_eq_equiv}
use Rattle.pa_ring.specs.Sums.{dot}
use Rattle.pa_ring.proofs.Integers.{+ℤ-*ℤ}
use Rattle.pa_meaning.specs.Contracts.{Name, coefficient_at}
use Rattle.pa_math.proofs.Unions.{list_any-none}
use Rattle.pa_meaning.proofs.Places.{coefficient_at-cons, coefficient_at-no_numbers, coefficient_at-absent}

-- the sum of no products is 0
dot-nil : (cs : List ℤ) → dot cs [] ≡ pos 0
dot-nil [] = refl
dot-nil (c ∷ cs) = refl

module _ (v : Name → ℤ) where
  -- coefficients that are all 0
  dot-zeros : (ns : List Name) → dot (map (λ _. pos 0) ns) (map v ns) ≡ pos 0
  dot-zeros [] = refl
  dot-zeros (n ∷ ns) = let rest = dot-zeros ns in omega (arith, ints, rest)

  -- coefficients that are sums
  dot-sum : (f g : Name → ℤ) (ns : List Name) → dot (map (λ n. f n +ℤ g n) ns) (map v ns) ≡ dot (map f ns) (map v ns) +ℤ dot (map g ns) (map v ns)
  dot-sum f g [] = refl
  dot-sum f g (n ∷ ns) = omega (arith, ints, dot-sum f g ns, +ℤ-*ℤ (f n) (g n) (v n))

  -- coefficients that agree at each name
  dot-agree : (f g : Name → ℤ) → ((n : Name) → f n ≡ g n) → (ns : List Name) → dot (map f ns) (map v ns) ≡ dot (map g ns) (map v ns)
  dot-agree f g same ns = λ i. dot (map (λ n. same n i) ns) (map v ns)

  -- a coefficient at a name that is not there
  dot-absent : (n : Name) (c : ℤ) (ns : List Name) → list_any (bytes_eq n) ns ≡ false → dot (map (λ w. cond (bytes_eq n w) c (pos 0)) ns) (map v ns) ≡ pos 0
  dot-absent n c [] h = refl
  dot-absent n c (w ∷ ws) h = by (bytes_eq n w) h (dot-absent n c ws)
    where
      by : (b : Bool) → (b || list_any (bytes_eq n) ws) ≡ false
          → (list_any (bytes_eq n) ws ≡ false → dot (map (λ w. cond (bytes_eq n w) c (pos 0)) ws) (map v ws) ≡ pos 0)
          → cond b c (pos 0) *ℤ v w +ℤ dot (map (λ w. cond (bytes_eq n w) c (pos 0)) ws) (map v ws) ≡ pos 0
      by true h rest = absurd (cc)
      by false h rest = let r = rest h in omega (arith, ints, r)

  -- a coefficient at a name that is there once
  dot-one : (n : Name) (c : ℤ) (ns : List Name) → IsDistinct bytes_eq ns → list_any (bytes_eq n) ns ≡ true
      → dot (map (λ w. cond (bytes_eq n w) c (pos 0)) ns) (map v ns) ≡ c *ℤ v n
  dot-one n c [] d h = absurd (cc)
  dot-one n c (w ∷ ws) d h = by (bytes_eq n w) refl h (dot-one n c ws (IsDistinct-tail bytes_eq w ws d))
    where
      head : AllByRecursion (λ y. bytes_eq w y ≡ false) ws
      head = IsDistinct-head bytes_eq w ws d

      by : (b : Bool) → bytes_eq n w ≡ b → (b || list_any (bytes_eq n) ws) ≡ true
          → (list_any (bytes_eq n) ws ≡ true → dot (map (λ w. cond (bytes_eq n w) c (pos 0)) ws) (map v ws) ≡ c *ℤ v n)
          → cond b c (pos 0) *ℤ v w +ℤ dot (map (λ w. cond (bytes_eq n w) c (pos 0)) ws) (map v ws) ≡ c *ℤ v n
      by true e h _ =
          let same : n ≡ w = (bytes_eq-Decides n w).0 e in
          let rest = dot-absent n c ws (list_any-none (bytes_eq n) ws (subst (λ x. AllByRecursion (λ y. bytes_eq x y ≡ false) ws) (sym same) head)) in
          omega (arith, ints, rest, ap (λ x. c *ℤ v x) same)
      by false e h further = let rest = further h in omega (arith, ints, rest)

-- a row over the names, by its first coefficient and the others
coefficient_at-sum : (n : Name) (ns : List Name) (c : ℤ) (cs : List ℤ) → list_any (bytes_eq n) ns ≡ false
    → (w : Name) → coefficient_at (n ∷ ns) (c ∷ cs) w ≡ cond (bytes_eq n w) c (pos 0) +ℤ coefficient_at ns cs w
coefficient_at-sum n ns c cs absent w = coefficient_at-cons n ns c cs w ∙ ap (λ b. cond b c (coefficient_at ns cs w)) (nat_list_eq_equiv.symm w n)
    ∙ by (bytes_eq n w) refl
  where
    by : (b : Bool) → bytes_eq n w ≡ b → cond b c (coefficient_at ns cs w) ≡ cond b c (pos 0) +ℤ coefficient_at ns cs w
    by true e =
        let same : n ≡ w = (bytes_eq-Decides n w).0 e in
        let none = coefficient_at-absent ns cs w (subst (λ x. list_any (bytes_eq x) ns ≡ false) same absent) in
        omega (arith, ints, none)
    by false e = omega (arith, ints)

-- The sum of a row over wider names is the sum of the row over its own names, where no name is repeated and the wider
-- names have each of its own.
pub dot-over_names : (v : Name → ℤ) (wider ns : List Name) (cs : List ℤ) → IsDistinct bytes_eq wider → IsDistinct bytes_eq ns
    → AllByRecursion (λ n. list_any (bytes_eq n) wider ≡ true) ns
    → dot (map (coefficient_at ns cs) wider) (map v wider) ≡ dot cs (map v ns)
dot-over_names v wider [] cs dw dn among = dot-zeros v wider ∙ sym (dot-nil cs)
dot-over_names v wider (n ∷ ns) [] dw dn among = dot-agree v _ _ (coefficient_at-no_numbers (n ∷ ns)) wider ∙ dot-zeros v wider
dot-over_names v wider (n ∷ ns) (c ∷ cs) dw dn among =
    let absent = list_any-none (bytes_eq n) ns (IsDistinct-head bytes_eq n ns dn) in
    dot-agree v _ _ (coefficient_at-sum n ns c cs absent) wider
    ∙ dot-sum v (λ w. cond (bytes_eq n w) c (pos 0)) (coefficient_at ns cs) wider
    ∙ ap (λ t. t +ℤ dot (map (coefficient_at ns cs) wider) (map v wider)) (dot-one v n c wider dw among.0)
    ∙ ap (λ t. c *ℤ v n +ℤ t) (dot-over_names v wider ns cs dw (IsDistinct-tail bytes_eq n ns dn) among.1)
