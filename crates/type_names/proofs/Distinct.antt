-- Each word has one name.
use Rattle.std.proofs.Common.{◌≡◌, ◌∙◌, ◌++◌, ◌∷◌, ◌+◌, [], ℕ, Bool, true, false, List, Option, Some, None, Result, Ok, Err}
use Rattle.std.proofs.Common.{ap, cond, eqb, refl, subst, sym}
use Rattle.std.specs.Prelude.{find, is_some, option_and_then, option_map, ⊤}
use Rattle.std.specs.Str.{bytes_eq}
use Rattle.std.proofs.lemmas.Bool.{eq-eqb, eqb-true}
use Rattle.std.proofs.lemmas.Slice.Eq.{bytes_eq-Decides}
use Rattle.script_text.specs.Lines.{◌>>=◌, pieces_of}
use Rattle.type_names.specs.NamedLines.{TypeName, is_passed, type_in}
use Rattle.type_names.specs.Naming.{first_for, in_line, known, name_among, name_in, types_from, types_of}
use Rattle.type_names.specs.Naming.{with_line, with_read, with_type, word_among}
use Rattle.type_names.specs.declared.faults.Mistake.{Mistake}
use Rattle.type_names.specs.declared.faults.Mistake.TheVariants.{NamedTwice}
use Rattle.type_names.specs.declared.faults.TypesFault.{TypesFault}
use Rattle.type_names.proofs.Naming.{more_other}

abbrev AreDistinct : List TypeName → Type 0
AreDistinct [] = ⊤
AreDistinct (t ∷ ts) = (name_among ts t.word ≡ None) × AreDistinct ts

-- the first of some types has another word than one whose word has no name among them
other_first : (u : TypeName) (us : List TypeName) (w : ℕ) → name_among (u ∷ us) w ≡ None → eqb w u.word ≡ false
other_first u us w none = go (eqb w u.word) refl
  where
    go : (b : Bool) → eqb w u.word ≡ b → eqb w u.word ≡ false
    go false e = e
    go true e =
        let same : w ≡ u.word = eqb-true w u.word e in
        let yes : eqb u.word w ≡ true = eq-eqb u.word w (sym same) in
        let found = ap (λ (b : Bool). option_map (λ t. t.name) (cond b (Some u) (find (λ t. eqb t.word w) us))) yes in
        absurd (let both = sym found ∙ none in cc)

rest_none : (u : TypeName) (us : List TypeName) (w : ℕ) → eqb w u.word ≡ false → name_among (u ∷ us) w ≡ None → name_among us w ≡ None
rest_none u us w e none = go (eqb u.word w) refl
  where
    go : (b : Bool) → eqb u.word w ≡ b → name_among us w ≡ None
    go true d =
        let back = eq-eqb w u.word (sym (eqb-true u.word w d)) in
        absurd cc
    go false d =
        sym (ap (λ (b : Bool). option_map (λ t. t.name) (cond b (Some u) (find (λ t. eqb t.word w) us))) d) ∙ none

distinct_more : (ts : List TypeName) (t : TypeName) → AreDistinct ts → name_among ts t.word ≡ None → AreDistinct (ts ++ t ∷ [])
distinct_more [] t d none = (refl, tt)
distinct_more (u ∷ us) t d none =
    let other = other_first u us t.word none in
    (more_other (λ v. eqb v.word u.word) (λ v. v.name) us t other ∙ d.0, distinct_more us t d.1 (rest_none u us t.word other none))

-- with a line's word they stay so
fresh : (b : Bool) (ts more : List TypeName) (t : TypeName) → is_some (name_among ts t.word) ≡ b → with_type ts t ≡ Ok more
    → AreDistinct ts → AreDistinct more
fresh true ts more t e is d =
    let bad = sym (ap (λ (b : Bool). cond b (Err NamedTwice) (Ok (ts ++ t ∷ []))) e) ∙ is in
    absurd cc
fresh false ts more t e is d =
    let same : Ok (ts ++ t ∷ []) ≡ Ok more = sym (ap (λ (b : Bool). cond b (Err NamedTwice) (Ok (ts ++ t ∷ []))) e) ∙ is in
    let all : ts ++ t ∷ [] ≡ more = cc in
    subst AreDistinct all (distinct_more ts t d (none_of (name_among ts t.word) e))
  where
    none_of : (o : Option (List ℕ)) → is_some o ≡ false → o ≡ None
    none_of None e = refl
    none_of (Some x) e = absurd cc

by_read : (r : Result TypeName Mistake) (ts more : List TypeName) → with_read ts r ≡ Ok more → AreDistinct ts → AreDistinct more
by_read (Err mistake) ts more is d = absurd cc
by_read (Ok t) ts more is d = fresh (is_some (name_among ts t.word)) ts more t refl is d

by_line : (ts more : List TypeName) (line : List ℕ) → with_line ts line ≡ Ok more → AreDistinct ts → AreDistinct more
by_line ts more line is d = go (is_passed line) refl
  where
    go : (b : Bool) → is_passed line ≡ b → AreDistinct more
    go true e =
        let same : Ok ts ≡ Ok more = sym (ap (λ (b : Bool). cond b (Ok ts) (with_read ts (type_in line))) e) ∙ is in
        let all : ts ≡ more = cc in
        subst AreDistinct all d
    go false e = by_read (type_in line) ts more (sym (ap (λ (b : Bool). cond b (Ok ts) (with_read ts (type_in line))) e) ∙ is) d

distinct_from : (n : ℕ) (ts out : List TypeName) (lines : List (List ℕ)) → AreDistinct ts → types_from n ts lines ≡ Ok out → AreDistinct out
distinct_from n ts out [] d is =
    let same : ts ≡ out = cc in
    subst AreDistinct same d
distinct_from n ts out (line ∷ lines) d is =
    go (with_line ts line) refl is (λ more e. distinct_from (n + 1) more out lines (by_line ts more line e d))
  where
    go : (r : Result (List TypeName) Mistake) → with_line ts line ≡ r
        → (in_line n (with_line ts line) >>= (λ more. types_from (n + 1) more lines)) ≡ Ok out
        → ((more : List TypeName) → with_line ts line ≡ Ok more → types_from (n + 1) more lines ≡ Ok out → AreDistinct out)
        → AreDistinct out
    go (Err mistake) e all next =
        let bad = sym (ap (λ (x : Result (List TypeName) Mistake). in_line n x >>= (λ more. types_from (n + 1) more lines)) e) ∙ all in
        absurd cc
    go (Ok more) e all next =
        next more e (sym (ap (λ (x : Result (List TypeName) Mistake). in_line n x >>= (λ more. types_from (n + 1) more lines)) e) ∙ all)

-- the first word of a name has that name
first_named : (ts : List TypeName) → AreDistinct ts → (name : List ℕ) (f : ℕ) → word_among ts name ≡ Some f → name_among ts f ≡ Some name
first_named [] d name f e = absurd cc
first_named (t ∷ ts) d name f e = go (bytes_eq t.name name) refl (first_named ts d.1 name f)
  where
    go : (b : Bool) → bytes_eq t.name name ≡ b → (word_among ts name ≡ Some f → name_among ts f ≡ Some name)
        → name_among (t ∷ ts) f ≡ Some name
    go true s next =
        let here : Some t.word ≡ Some f =
        sym (ap (λ (b : Bool). option_map (λ u. u.word) (cond b (Some t) (find (λ u. bytes_eq u.name name) ts))) s) ∙ e in
        let word : t.word ≡ f = cc in
        ap (λ (b : Bool). option_map (λ u. u.name) (cond b (Some t) (find (λ u. eqb u.word f) ts))) (eq-eqb t.word f word)
        ∙ ap Some ((bytes_eq-Decides t.name name).0 s)
    go false s next =
        let later =
        next (sym (ap (λ (b : Bool). option_map (λ u. u.word) (cond b (Some t) (find (λ u. bytes_eq u.name name) ts))) s) ∙ e) in
        ap (λ (b : Bool). option_map (λ u. u.name) (cond b (Some t) (find (λ u. eqb u.word f) ts))) (apart later) ∙ later
      where
        apart : name_among ts f ≡ Some name → eqb t.word f ≡ false
        apart later = by (eqb t.word f) refl
          where
            by : (b : Bool) → eqb t.word f ≡ b → eqb t.word f ≡ false
            by false x = x
            by true x =
                let none = subst (λ (w : ℕ). name_among ts w ≡ None) (eqb-true t.word f x) d.0 in
                absurd (let both = sym none ∙ later in cc)

by_name : (ts : List TypeName) → AreDistinct ts → (o : Option (List ℕ)) (f : ℕ) → option_and_then (word_among ts) o ≡ Some f
    → name_among ts f ≡ o
by_name ts d None f e = absurd cc
by_name ts d (Some name) f e = first_named ts d name f e

by_types : (r : Result (List TypeName) TypesFault) (w f : ℕ) → ((ts : List TypeName) → r ≡ Ok ts → AreDistinct ts)
    → option_and_then (word_among (known r)) (name_among (known r) w) ≡ Some f → name_among (known r) f ≡ name_among (known r) w
by_types (Ok ts) w f d e = by_name ts (d ts refl) (name_among ts w) f e
by_types (Err fault) w f d e = absurd cc

pub first_is_named : (text : List ℕ) (w f : ℕ) → first_for text w ≡ Some f → name_in text f ≡ name_in text w
first_is_named text w f e = by_types (types_of text) w f (λ ts is. distinct_from 1 [] ts (pieces_of text) tt is) e
