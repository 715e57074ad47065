-- What the reader's steps find, and from what they find it: names, ports and rows, in both directions.
use Rattle.std.proofs.Common.{◌≡◌, ℕ, ◌+◌, ◌≤◌, Bool, true, false, ◌||◌, cond, List, [], ◌∷◌, ◌++◌, map, length, refl, sym, ap}
use Rattle.std.proofs.Common.{◌∙◌, subst}
use Rattle.std.proofs.Common.{Option, Some, None, option_and_then, option_map, is_some, position, Result, Ok, Err}
use Rattle.std.specs.Prelude.{nat_lt, ⊤}
use Rattle.std.specs.List.{list_any, IsDistinct, AllByRecursion}
use Rattle.std.specs.Str.{bytes_eq}
use Rattle.std.proofs.lemmas.Bool.{ltb-false, le-ltb}
use Rattle.std.proofs.lemmas.Cmp.{nat_list_eq_equiv}
use Rattle.std.proofs.lemmas.List.{append_assoc, append-nil, map-append}
use Rattle.std.proofs.lemmas.List.Folds.{list_any-append}
use Rattle.std.proofs.lemmas.List.Sums.{fold-append}
use Rattle.std.proofs.lemmas.Map.Keys.{IsDistinct-head, IsDistinct-tail, IsDistinct-push}
use Rattle.serde_json.specs.Data.{Data, Items, no_items, item}
use Rattle.serde_json.specs.Find.{get, as_str, as_array}
use Rattle.pa_math.specs.Answers.{and_then, needed, told_as}
use Rattle.pa_math.specs.Lists.{AreApart}
use Rattle.pa_meaning.specs.Rows.{Row}
use Rattle.pa_meaning.specs.Contracts.{Name}
use Rattle.pa_names.specs.Names.{is_name}
use Rattle.pa_contract.specs.Make.{mentions_from, first_columns}
use Rattle.pa_contract.proofs.Steps.{is_some-position}
use Rattle.pa_grammar.specs.Lexer.{Scope, most_text}
use Rattle.pa_grammar.specs.Texts.{AreRowsOf, term_answer}
use Rattle.pa_json.specs.Diagram.{name_text, list_of, with_port, with_ports, texts_of, term_rows_of, over_inputs, rows_of_text, with_rows}
use Rattle.pa_json.specs.Diagram.{rows_in, rows_of}
use Rattle.pa_json.specs.Found.{Are, IsText, IsName, AreSaid, Says}
use Rattle.pa_json.specs.Kept.{kept_all}
use Rattle.pa_json.specs.Paths.{member_path, item_path}
use Rattle.pa_json.specs.declared.fault.DiagramFault.{DiagramFault}
use Rattle.pa_json.specs.declared.fault.DiagramFault.TheVariants as fault
use Rattle.pa_json.specs.declared.fault.DiagramFault.TheVariants.{Shape, Term, Limit}
use Rattle.pa_json.specs.declared.fault.MakeKind.TheVariants.{PortTwice, AssumesOutput}
use Rattle.pa_json.proofs.Steps.{both_taken}
use Rattle.pa_json.proofs.TermRows.{rows_say, rows_due}

-- ---- steps

-- where the first step gives this, and the second that from it, both do
pub joined : {A B E : Type 0} (r : Result A E) (next : A → Result B E) (a : A) (b : B) → r ≡ Ok a → next a ≡ Ok b → and_then r next ≡ Ok b
joined r next a b is then = ap (λ r. and_then r next) is ∙ then

pub was_there : {A E : Type 0} (e : E) (found : Option A) (a : A) → needed e found ≡ Ok a → found ≡ Some a
was_there e None a is = cc
was_there e (Some b) a is = let same : b ≡ a = cc in ap Some same

-- a test that refused nothing
pub not_refused : {A E : Type 0} (b : Bool) (e : E) (x y : A) → cond b (Err e) (Ok x) ≡ Ok y → (b ≡ false) × (x ≡ y)
not_refused true e x y is = absurd (cc)
not_refused false e x y is = (refl, cc)

pub passed : {A E : Type 0} (b : Bool) (e : E) (x : A) → b ≡ false → cond b (Err e) (Ok x) ≡ Ok x
passed b e x is = ap (λ b. cond b (Err e) (Ok x)) is

-- ---- names

pub name_found : (path : List ℕ) (found : Option Data) (name : Name) → name_text path found ≡ Ok name → IsName found name
name_found path found name is =
    let text = both_taken (needed (Shape path) (option_and_then as_str found)) _ name is in
    by text.0 (is_name text.0) refl (was_there (Shape path) (option_and_then as_str found) text.0 text.1) text.2
  where
    by : (text : List ℕ) (b : Bool) → is_name text ≡ b → option_and_then as_str found ≡ Some text → cond b (Ok text) (Err (Shape path)) ≡ Ok name
        → IsName found name
    by text true good there e = let same : text ≡ name = cc in subst (IsName found) same (there, good)
    by text false good there e = absurd (cc)

pub name_is : (path : List ℕ) (found : Option Data) (name : Name) → IsName found name → name_text path found ≡ Ok name
name_is path found name is =
    ap (λ f. and_then (needed (Shape path) f) (λ text. cond (is_name text) (Ok text) (Err (Shape path)))) is.0
    ∙ ap (λ b. cond b (Ok name) (Err (Shape path))) is.1

-- ---- ports

-- no element of the first list is the one that stands between two lists without repetition
pub not_before : (names : List Name) (name : Name) (new : List Name) → IsDistinct bytes_eq (names ++ name ∷ new) → list_any (bytes_eq name) names ≡ false
not_before [] name new distinct = refl
not_before (x ∷ xs) name new distinct =
    rw (nat_list_eq_equiv.symm name x, at xs (IsDistinct-head bytes_eq x (xs ++ name ∷ new) distinct))
    (not_before xs name new (IsDistinct-tail bytes_eq x (xs ++ name ∷ new) distinct))
  where
    at : (xs : List Name) → AllByRecursion (λ y. bytes_eq x y ≡ false) (xs ++ name ∷ new) → bytes_eq x name ≡ false
    at [] all = all.0
    at (y ∷ ys) all = at ys all.1

-- the ports that a list of items has
abbrev pub ArePorts : Items → List Name → Type 0
ArePorts items names = Are (λ d name. IsName (Some d) name) items names

module _ (path : List ℕ) (constants : List Name) where
  port_found : (names more : List Name) (d : Data) → with_port path constants names d ≡ Ok more
      → (name : Name) × IsName (Some d) name × (list_any (bytes_eq name) constants ≡ false) × (list_any (bytes_eq name) names ≡ false)
      × (names ++ name ∷ [] ≡ more)
  port_found names more d is =
      let name = both_taken (name_text path (Some d)) _ more is in
      by name.0 (is_some (position (bytes_eq name.0) constants)) (list_any (bytes_eq name.0) names) refl refl (name_found path (Some d) name.0 name.1) name.2
    where
      by : (name : Name) (a b : Bool) → is_some (position (bytes_eq name) constants) ≡ a → list_any (bytes_eq name) names ≡ b → IsName (Some d) name
          → cond a (Err (Shape path)) (cond b (Err (fault.Contract path PortTwice)) (Ok (names ++ name ∷ []))) ≡ Ok more
          → (name : Name) × IsName (Some d) name × (list_any (bytes_eq name) constants ≡ false) × (list_any (bytes_eq name) names ≡ false)
          × (names ++ name ∷ [] ≡ more)
      by name true b first second there e = absurd (cc)
      by name false true first second there e = absurd (cc)
      by name false false first second there e = (name, there, sym (is_some-position (bytes_eq name) constants) ∙ first, second, cc)

  port_is : (names : List Name) (name : Name) (d : Data) → IsName (Some d) name → list_any (bytes_eq name) constants ≡ false
      → list_any (bytes_eq name) names ≡ false
      → with_port path constants names d ≡ Ok (names ++ name ∷ [])
  port_is names name d there first second =
      let tests : Name → Result (List Name) DiagramFault = λ name. cond (is_some (position (bytes_eq name) constants)) (Err (Shape path))
      (cond (list_any (bytes_eq name) names) (Err (fault.Contract path PortTwice)) (Ok (names ++ name ∷ []))) in
      ap (λ r. and_then r tests) (name_is path (Some d) name there)
      ∙ ap (λ a. cond a (Err (Shape path)) (cond (list_any (bytes_eq name) names) (Err (fault.Contract path PortTwice)) (Ok (names ++ name ∷ []))))
      (is_some-position (bytes_eq name) constants ∙ first)
      ∙ ap (λ b. cond b (Err (fault.Contract path PortTwice)) (Ok (names ++ name ∷ []))) second

  pub ports_found : (items : Items) (names more : List Name) → with_ports path constants names items ≡ Ok more → IsDistinct bytes_eq names
      → (new : List Name) × ArePorts items new × AreApart bytes_eq new constants × IsDistinct bytes_eq (names ++ new) × (names ++ new ≡ more)
  ports_found no_items names more is distinct =
      let same : names ≡ more = cc in
      ([], tt, tt, subst (IsDistinct bytes_eq) (sym (append-nil names)) distinct, append-nil names ∙ same)
  ports_found (item d ds) names more is distinct =
      let one = both_taken (with_port path constants names d) (λ more. with_ports path constants more ds) more is in
      let name = port_found names one.0 d one.1 in
      let after : with_ports path constants (names ++ name.0 ∷ []) ds ≡ Ok more = ap (λ ns. with_ports path constants ns ds) name.4 ∙ one.2 in
      let rest = ports_found ds (names ++ name.0 ∷ []) more after (IsDistinct-push nat_list_eq_equiv names name.0 distinct name.3) in
      let all : (names ++ name.0 ∷ []) ++ rest.0 ≡ names ++ name.0 ∷ rest.0 = append_assoc names (name.0 ∷ []) rest.0 in
      (name.0 ∷ rest.0, (name.1, rest.1), (name.2, rest.2), subst (IsDistinct bytes_eq) all rest.3, sym all ∙ rest.4)

  pub ports_are : (items : Items) (names new : List Name) → ArePorts items new → AreApart bytes_eq new constants → IsDistinct bytes_eq (names ++ new)
      → with_ports path constants names items ≡ Ok (names ++ new)
  ports_are no_items names [] are apart distinct = ap Ok (sym (append-nil names))
  ports_are no_items names (name ∷ new) are apart distinct = absurd are
  ports_are (item d ds) names [] are apart distinct = absurd are
  ports_are (item d ds) names (name ∷ new) are apart distinct =
      let all : (names ++ name ∷ []) ++ new ≡ names ++ name ∷ new = append_assoc names (name ∷ []) new in
      joined (with_port path constants names d) (λ more. with_ports path constants more ds) (names ++ name ∷ []) (names ++ name ∷ new)
      (port_is names name d are.0 apart.0 (not_before names name new distinct))
      (ports_are ds (names ++ name ∷ []) new are.1 apart.1 (subst (IsDistinct bytes_eq) (sym all) distinct) ∙ ap Ok all)

-- ---- rows

-- the rows over the inputs alone, where there are any
abbrev pub fronts : Option ℕ → List Row → List Row
fronts None rows = rows
fronts (Some inputs) rows = map (first_columns inputs) rows

-- no row mentions a later column, where there are inputs
abbrev pub AreOver : Option ℕ → List Row → Type 0
AreOver None rows = ⊤
AreOver (Some inputs) rows = list_any (mentions_from inputs) rows ≡ false

fronts-append : (inputs : Option ℕ) (xs ys : List Row) → fronts inputs (xs ++ ys) ≡ fronts inputs xs ++ fronts inputs ys
fronts-append None xs ys = refl
fronts-append (Some n) xs ys = map-append (first_columns n) xs ys

AreOver-append : (inputs : Option ℕ) (xs ys : List Row) → AreOver inputs xs → AreOver inputs ys → AreOver inputs (xs ++ ys)
AreOver-append None xs ys over more = tt
AreOver-append (Some n) xs ys over more = rw (list_any-append (mentions_from n) xs ys, over) more

AreOver-split : (inputs : Option ℕ) (xs ys : List Row) → AreOver inputs (xs ++ ys) → AreOver inputs xs × AreOver inputs ys
AreOver-split None xs ys over = (tt, tt)
AreOver-split (Some n) xs ys over =
    by (list_any (mentions_from n) xs) (list_any (mentions_from n) ys) refl refl (sym (list_any-append (mentions_from n) xs ys) ∙ over)
  where
    by : (a b : Bool) → list_any (mentions_from n) xs ≡ a → list_any (mentions_from n) ys ≡ b → (a || b) ≡ false
        → (list_any (mentions_from n) xs ≡ false) × (list_any (mentions_from n) ys ≡ false)
    by true b first second e = absurd (cc)
    by false b first second e = (first, second ∙ e)

-- the rows of one text, over the inputs alone
text_found : (path : List ℕ) (s : Scope) (inputs : Option ℕ) (text : List ℕ) (rows : List Row) → rows_of_text path s inputs text ≡ Ok rows
    → (said : List Row) × (length text ≤ most_text) × AreRowsOf s text said × AreOver inputs said × (fronts inputs said ≡ rows)
text_found path s inputs text rows is =
    let read = both_taken (term_rows_of path s text) (over_inputs path inputs) rows is in
    let short = in_text (nat_lt most_text (length text)) refl read.0 read.1 in
    let over = in_over inputs read.0 read.2 in
    (read.0, short.0, short.1, over.0, over.1)
  where
    in_answer : (r : Result (List Row) _) → term_answer s text ≡ r → (said : List Row) → told_as (λ fault. Term path fault) r ≡ Ok said
        → term_answer s text ≡ Ok said
    in_answer (Ok xs) answer said e = let same : xs ≡ said = cc in answer ∙ ap Ok same
    in_answer (Err f) answer said e = absurd (cc)

    in_text : (b : Bool) → nat_lt most_text (length text) ≡ b → (said : List Row)
        → cond b (Err (Limit path)) (told_as (λ fault. Term path fault) (term_answer s text)) ≡ Ok said → (length text ≤ most_text) × AreRowsOf s text said
    in_text true long said e = absurd (cc)
    in_text false long said e = (ltb-false most_text (length text) long, rows_say s text said (in_answer (term_answer s text) refl said e))

    in_over : (inputs : Option ℕ) (said : List Row) → over_inputs path inputs said ≡ Ok rows → AreOver inputs said × (fronts inputs said ≡ rows)
    in_over None said e = (tt, cc)
    in_over (Some n) said e = not_refused (list_any (mentions_from n) said) (fault.Contract path AssumesOutput) (map (first_columns n) said) rows e

text_is : (path : List ℕ) (s : Scope) (inputs : Option ℕ) (text : List ℕ) (said : List Row) → length text ≤ most_text → AreRowsOf s text said
    → AreOver inputs said
    → rows_of_text path s inputs text ≡ Ok (fronts inputs said)
text_is path s inputs text said short are over =
    joined (term_rows_of path s text) (over_inputs path inputs) said (fronts inputs said)
    (ap (λ b. cond b (Err (Limit path)) (told_as (λ fault. Term path fault) (term_answer s text))) (le-ltb most_text (length text) short)
    ∙ ap (told_as (λ fault. Term path fault)) (rows_due s text said are)) (by inputs over)
  where
    by : (inputs : Option ℕ) → AreOver inputs said → over_inputs path inputs said ≡ Ok (fronts inputs said)
    by None over = refl
    by (Some n) over = passed (list_any (mentions_from n) said) (fault.Contract path AssumesOutput) (map (first_columns n) said) over

module _ (path : List ℕ) (s : Scope) (inputs : Option ℕ) where
  rows_found : (j : ℕ) (rows : List Row) (texts : List (List ℕ)) (all : List Row) → with_rows path s inputs j rows texts ≡ Ok all
      → (said : List Row) × AreSaid s texts said × AreOver inputs said × (kept_all rows (fronts inputs said) ≡ all)
  rows_found j rows [] all is = ([], refl, none inputs, ap (kept_all rows) (nothing inputs) ∙ (cc))
    where
      none : (inputs : Option ℕ) → AreOver inputs []
      none None = tt
      none (Some n) = refl

      nothing : (inputs : Option ℕ) → fronts inputs [] ≡ []
      nothing None = refl
      nothing (Some n) = refl
  rows_found j rows (text ∷ texts) all is =
      let one = both_taken (rows_of_text (item_path path j) s inputs text) (λ more. with_rows path s inputs (j + 1) (kept_all rows more) texts) all is in
      let first = text_found (item_path path j) s inputs text one.0 one.1 in
      let rest = rows_found (j + 1) (kept_all rows one.0) texts all one.2 in
      let kept : kept_all rows (fronts inputs (first.0 ++ rest.0)) ≡ all =
      ap (kept_all rows) (fronts-append inputs first.0 rest.0 ∙ ap (λ xs. xs ++ fronts inputs rest.0) first.4)
      ∙ fold-append _ rows one.0 (fronts inputs rest.0) ∙ rest.3 in
      (first.0 ++ rest.0, (first.0, rest.0, first.1, first.2, rest.1, refl), AreOver-append inputs first.0 rest.0 first.3 rest.2, kept)

  rows_are : (j : ℕ) (rows : List Row) (texts : List (List ℕ)) (said : List Row) → AreSaid s texts said → AreOver inputs said
      → with_rows path s inputs j rows texts ≡ Ok (kept_all rows (fronts inputs said))
  rows_are j rows [] said are over = ap (λ xs. Ok (kept_all rows xs)) (sym (ap (fronts inputs) are ∙ nothing inputs))
    where
      nothing : (inputs : Option ℕ) → fronts inputs [] ≡ []
      nothing None = refl
      nothing (Some n) = refl
  rows_are j rows (text ∷ texts) said (first, others, short, are, rest, same) over =
      let both = AreOver-split inputs first others (subst (AreOver inputs) same over) in
      let kept : kept_all (kept_all rows (fronts inputs first)) (fronts inputs others) ≡ kept_all rows (fronts inputs said) =
      sym (ap (λ xs. kept_all rows (fronts inputs xs)) same ∙ ap (kept_all rows) (fronts-append inputs first others)
      ∙ fold-append _ rows (fronts inputs first) (fronts inputs others)) in
      joined (rows_of_text (item_path path j) s inputs text) (λ more. with_rows path s inputs (j + 1) (kept_all rows more) texts) (fronts inputs first)
      (kept_all rows (fronts inputs said)) (text_is (item_path path j) s inputs text first short are both.0)
      (rows_are (j + 1) (kept_all rows (fronts inputs first)) texts others rest both.1 ∙ ap Ok kept)

-- the texts of a list's items
texts_found : (items : Items) (texts : List (List ℕ)) → texts_of items ≡ Some texts → Are (λ d text. IsText (Some d) text) items texts
texts_found no_items texts is = let same : [] ≡ texts = cc in subst (Are (λ d text. IsText (Some d) text) no_items) same tt
texts_found (item d ds) texts is = by (as_str d) (texts_of ds) refl refl is (texts_found ds)
  where
    by : (text : Option (List ℕ)) (rest : Option (List (List ℕ))) → as_str d ≡ text → texts_of ds ≡ rest
        → option_and_then (λ text. option_map (λ texts. text ∷ texts) rest) text ≡ Some texts
        → ((rest : List (List ℕ)) → texts_of ds ≡ Some rest → Are (λ d text. IsText (Some d) text) ds rest)
        → Are (λ d text. IsText (Some d) text) (item d ds) texts
    by None rest first others e known = absurd (cc)
    by (Some text) None first others e known = absurd (cc)
    by (Some text) (Some rest) first others e known =
        let same : text ∷ rest ≡ texts = cc in
        subst (Are (λ d text. IsText (Some d) text) (item d ds)) same (first, known rest others)

texts_are : (items : Items) (texts : List (List ℕ)) → Are (λ d text. IsText (Some d) text) items texts → texts_of items ≡ Some texts
texts_are no_items [] are = refl
texts_are no_items (text ∷ texts) are = absurd are
texts_are (item d ds) [] are = absurd are
texts_are (item d ds) (text ∷ texts) are =
    ap (option_and_then (λ text. option_map (λ texts. text ∷ texts) (texts_of ds))) are.0 ∙ ap (option_map (λ texts. text ∷ texts)) (texts_are ds texts are.1)

-- the rows of a member
pub said_found : (path key : List ℕ) (s : Scope) (inputs : Option ℕ) (d : Data) (rows : List Row) → rows_of path key s inputs d ≡ Ok rows
    → (said : List Row) × Says s (get key d) said × AreOver inputs said × (kept_all [] (fronts inputs said) ≡ rows)
said_found path key s inputs d rows is =
    let at = member_path path key in
    let list = both_taken (list_of path key d) (rows_in at s inputs) rows is in
    let texts = both_taken (needed (Shape at) (texts_of list.0)) (with_rows at s inputs 0 []) rows list.2 in
    let found = rows_found at s inputs 0 [] texts.0 rows texts.2 in
    let items = was_there (Shape at) (option_and_then as_array (get key d)) list.0 list.1 in
    let are = texts_found list.0 texts.0 (was_there (Shape at) (texts_of list.0) texts.0 texts.1) in
    (found.0, (texts.0, (list.0, items, are), found.1), found.2, found.3)

pub said_is : (path key : List ℕ) (s : Scope) (inputs : Option ℕ) (d : Data) (said : List Row) → Says s (get key d) said → AreOver inputs said
    → rows_of path key s inputs d ≡ Ok (kept_all [] (fronts inputs said))
said_is path key s inputs d said (texts, (items, there, are), say) over =
    let at = member_path path key in
    joined (list_of path key d) (rows_in at s inputs) items (kept_all [] (fronts inputs said)) (ap (needed (Shape at)) there)
    (joined (needed (Shape at) (texts_of items)) (with_rows at s inputs 0 []) texts (kept_all [] (fronts inputs said))
    (ap (needed (Shape at)) (texts_are items texts are))
    (rows_are at s inputs 0 [] texts said say over))
