-- The words of a text, one after another: a word behind a space ends at the next space or at the text's end.
use Rattle.std.proofs.Common.{◌≡◌, ◌⊎◌, inl, inr, ℕ, suc, ◌+◌, ◌≤◌, List, [], ◌∷◌, ◌++◌, take, drop, length, refl, ap, sym, ◌∙◌, subst, Bool, true, false}
use Rattle.std.proofs.Common.{arith}
use Rattle.std.specs.Prelude.{not, ◌||◌, ◌==◌, nat_le}
use Rattle.std.specs.List.{AllPass, prefix_len}
use Rattle.std.proofs.lemmas.Bool.{and_parts, cond-true, cond-false, eqb-true, leb-true}
use Rattle.std.proofs.lemmas.List.{append-nil}
use Rattle.std.proofs.lemmas.List.Elements.{All-head, All-tail, All-weaker}
use Rattle.std.proofs.lemmas.List.Sums.{AllPass-from_list_all}
use Rattle.pa_names.specs.Names.{is_name, continues_name}
use Rattle.pa_script.specs.Words.{is_blank, in_word, unblanked, first_word, after_word}

-- some bytes, and no space or tab
pub record IsWord (word : List ℕ) : Type 0 where
  pub there : 1 ≤ length word
  pub each : AllPass in_word word

-- no word goes on with the text
abbrev pub Ends : List ℕ → Type 0
Ends rest = prefix_len in_word rest ≡ 0

prefix_whole : (p : ℕ → Bool) (word rest : List ℕ) → AllPass p word → prefix_len p rest ≡ 0 → prefix_len p (word ++ rest) ≡ length word
prefix_whole p [] rest each ends = ends
prefix_whole p (b ∷ word) rest each ends =
    let more : prefix_len p (b ∷ (word ++ rest)) ≡ 1 + prefix_len p (word ++ rest) = cond-true (p b) (1 + prefix_len p (word ++ rest)) 0 (All-head (λ x. p x
    ≡ true) b word each) in
    omega (arith, more, prefix_whole p word rest (All-tail (λ x. p x ≡ true) b word each) ends)

take_front : (word rest : List ℕ) → take (length word) (word ++ rest) ≡ word
take_front [] rest = refl
take_front (b ∷ word) rest = ap (λ xs. b ∷ xs) (take_front word rest)

drop_front : (word rest : List ℕ) → drop (length word) (word ++ rest) ≡ rest
drop_front [] rest = refl
drop_front (b ∷ word) rest = drop_front word rest

not_true : (b : Bool) → not b ≡ true → b ≡ false
not_true true is = sym is
not_true false is = refl

word_unblanked : (word rest : List ℕ) → IsWord word → unblanked (word ++ rest) ≡ word ++ rest
word_unblanked [] rest is = absurd (omega (arith, is.there))
word_unblanked (b ∷ word) rest is =
    ap (λ n. drop n (b ∷ (word ++ rest)))
    (cond-false (is_blank b) (1 + prefix_len is_blank (word ++ rest)) 0 (not_true (is_blank b) (All-head (λ x. in_word x ≡ true) b word is.each)))

behind_space : (text : List ℕ) → unblanked (32 ∷ text) ≡ unblanked text
behind_space text =
    let more : 1 + prefix_len is_blank text ≡ suc (prefix_len is_blank text) = omega arith in
    ap (λ n. drop n (32 ∷ text)) more

begins : (word rest : List ℕ) → IsWord word → unblanked (32 ∷ (word ++ rest)) ≡ word ++ rest
begins word rest is = behind_space (word ++ rest) ∙ word_unblanked word rest is

pub first_at : (word rest : List ℕ) → IsWord word → Ends rest → first_word (32 ∷ (word ++ rest)) ≡ word
first_at word rest is ends =
    ap (λ t. take (prefix_len in_word t) t) (begins word rest is)
    ∙ ap (λ n. take n (word ++ rest)) (prefix_whole in_word word rest is.each ends) ∙ take_front word rest

pub after_at : (word rest : List ℕ) → IsWord word → Ends rest → after_word (32 ∷ (word ++ rest)) ≡ rest
after_at word rest is ends =
    ap (λ t. drop (prefix_len in_word t) t) (begins word rest is)
    ∙ ap (λ n. drop n (word ++ rest)) (prefix_whole in_word word rest is.each ends) ∙ drop_front word rest

-- the last word
pub first_last : (word : List ℕ) → IsWord word → first_word (32 ∷ word) ≡ word
first_last word is = ap (λ t. first_word (32 ∷ t)) (sym (append-nil word)) ∙ first_at word [] is refl

pub after_last : (word : List ℕ) → IsWord word → after_word (32 ∷ word) ≡ []
after_last word is = ap (λ t. after_word (32 ∷ t)) (sym (append-nil word)) ∙ after_at word [] is refl

-- ---- a name is a word

either : (x y : Bool) → (x || y) ≡ true → (x ≡ true) ⊎ (y ≡ true)
either true y is = inl refl
either false y is = inr is

no_blank : (p : ℕ → Bool) → p 32 ≡ false → p 9 ≡ false → (b : ℕ) → ((b == 32) ≡ true) ⊎ ((b == 9) ≡ true) → p b ≡ true → false ≡ true
no_blank p space tab b (inl is) passes = sym space ∙ subst (λ x. p x ≡ true) (eqb-true b 32 is) passes
no_blank p space tab b (inr is) passes = sym tab ∙ subst (λ x. p x ≡ true) (eqb-true b 9 is) passes

not_blank : (p : ℕ → Bool) → p 32 ≡ false → p 9 ≡ false → (b : ℕ) (blank : Bool) → is_blank b ≡ blank → p b ≡ true → not blank ≡ true
not_blank p space tab b true is passes = no_blank p space tab b (either (b == 32) (b == 9) is) passes
not_blank p space tab b false is passes = refl

-- bytes of a kind that has no space and no tab are those of a word
pub all_in_word : (p : ℕ → Bool) → p 32 ≡ false → p 9 ≡ false → (text : List ℕ) → AllPass p text → AllPass in_word text
all_in_word p space tab text each =
    All-weaker (λ b. p b ≡ true) (λ b. in_word b ≡ true) (λ b passes. not_blank p space tab b (is_blank b) refl passes) text each

pub name_there : (name : List ℕ) → is_name name ≡ true → nat_le 1 (length name) ≡ true
name_there name is = (and_parts _ _ (and_parts _ _ (and_parts _ _ (and_parts _ _ is).0).0).0).0

pub name_word : (name : List ℕ) → is_name name ≡ true → IsWord name
name_word name is = record {
  there = leb-true 1 (length name) (name_there name is);
  each = all_in_word continues_name refl refl name (AllPass-from_list_all continues_name name (and_parts _ _ (and_parts _ _ is).0).1);
}
