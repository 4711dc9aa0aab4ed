-- Types in maps, one more at a time.
use Rattle.std.proofs.Common.{◌≡◌, ◌∙◌, ◌++◌, ◌∷◌, [], ℕ, Bool, true, false, List, Option, Some, None, ap, cond, eqb, refl, subst, sym}
use Rattle.std.specs.Prelude.{find, is_some, option_map}
use Rattle.std.specs.BTreeMap.{BTreeMap, UpdatesBy, get, get_by}
use Rattle.std.specs.Borrow.{Bor}
use Rattle.std.specs.Cmp.{Equal-is}
use Rattle.std.specs.Cmp.Lexicographic.{slice_cmp}
use Rattle.std.specs.Map.{update}
use Rattle.std.specs.Ordering.{is_eq, nat_cmp}
use Rattle.std.specs.Str.{bytes_eq}
use Rattle.std.proofs.lemmas.Bool.{eq-eqb, eqb-true}
use Rattle.std.proofs.lemmas.Map.Lookups.{exact_unsigned}
use Rattle.std.proofs.lemmas.Map.Text.{btree_map_updates_str}
use Rattle.std.proofs.lemmas.Slice.Eq.{bytes_eq-Decides}
use Rattle.type_names.specs.NamedLines.{TypeName}
use Rattle.type_names.specs.Naming.{name_among, word_among}
use Rattle.type_names.specs.Tables.{AreFirsts, AreWords}

-- ---- what is found in a list with one more
module _ {X Y : Type 0} (p : X → Bool) (v : X → Y) where
  find_more : (xs : List X) (x : X) → find p (xs ++ x ∷ []) ≡ cond (is_some (find p xs)) (find p xs) (cond (p x) (Some x) None)
  find_more [] x = refl
  find_more (y ∷ ys) x = go (p y) (find_more ys x)
    where
      go : (b : Bool) → find p (ys ++ x ∷ []) ≡ cond (is_some (find p ys)) (find p ys) (cond (p x) (Some x) None)
          → cond b (Some y) (find p (ys ++ x ∷ []))
          ≡ cond (is_some (cond b (Some y) (find p ys))) (cond b (Some y) (find p ys)) (cond (p x) (Some x) None)
      go true more = refl
      go false more = more

  other_only : (o : Option X) → cond (is_some o) o None ≡ o
  other_only None = refl
  other_only (Some x) = refl

  pub more_other : (xs : List X) (x : X) → p x ≡ false → option_map v (find p (xs ++ x ∷ [])) ≡ option_map v (find p xs)
  more_other xs x e =
      ap (option_map v) (find_more xs x ∙ ap (λ (b : Bool). cond (is_some (find p xs)) (find p xs) (cond b (Some x) None)) e
      ∙ other_only (find p xs))

  none_before : (o : Option X) → option_map v o ≡ None → o ≡ None
  none_before None e = refl
  none_before (Some x) e = absurd cc

  pub more_new : (xs : List X) (x : X) → p x ≡ true → option_map v (find p xs) ≡ None
      → option_map v (find p (xs ++ x ∷ [])) ≡ Some (v x)
  more_new xs x e none =
      ap (option_map v) (find_more xs x ∙ ap (λ (o : Option X). cond (is_some o) o (cond (p x) (Some x) None)) (none_before _ none)
      ∙ ap (λ (b : Bool). cond b (Some x) None) e)

  some_before : (o : Option X) (y : Option X) → is_some (option_map v o) ≡ true → cond (is_some o) o y ≡ o
  some_before None y e = absurd cc
  some_before (Some x) y e = refl

  pub more_found : (xs : List X) (x : X) → is_some (option_map v (find p xs)) ≡ true
      → option_map v (find p (xs ++ x ∷ [])) ≡ option_map v (find p xs)
  more_found xs x e = ap (option_map v) (find_more xs x ∙ some_before (find p xs) _ e)

-- ---- words
other_word : (w q : ℕ) → eqb w q ≡ false → is_eq (nat_cmp w q) ≡ false
other_word w q e = go (is_eq (nat_cmp w q)) refl
  where
    go : (b : Bool) → is_eq (nat_cmp w q) ≡ b → is_eq (nat_cmp w q) ≡ false
    go false d = d
    go true d =
        let same = eq-eqb w q (exact_unsigned w q ((Equal-is (nat_cmp w q)).0 d)) in
        absurd cc

pub words_more : (ts : List TypeName) (t : TypeName) (old new : BTreeMap ℕ (Bor (List ℕ))) (name : Bor (List ℕ)) → name.now ≡ t.name
    → get nat_cmp old t.word ≡ None → UpdatesBy nat_cmp (nat_cmp t.word) old new (Some name) → AreWords ts old
    → AreWords (ts ++ t ∷ []) new
words_more ts t old new name same none updates are = λ q. go q (eqb t.word q) refl
  where
    go : (q : ℕ) (b : Bool) → eqb t.word q ≡ b → option_map (λ n. n.now) (get nat_cmp new q) ≡ name_among (ts ++ t ∷ []) q
    go q true e =
        let here : t.word ≡ q = eqb-true t.word q e in
        let value = ap (option_map (λ n. n.now)) (subst (λ (x : ℕ). get nat_cmp new x ≡ Some name) here updates.1) in
        let before : name_among ts q ≡ None =
        sym (are q) ∙ ap (option_map (λ n. n.now)) (subst (λ (x : ℕ). get nat_cmp old x ≡ None) here none) in
        value ∙ ap Some same ∙ sym (more_new (λ u. eqb u.word q) (λ u. u.name) ts t e before)
    go q false e =
        ap (option_map (λ n. n.now)) (updates.2 q (other_word t.word q e)) ∙ are q
        ∙ sym (more_other (λ u. eqb u.word q) (λ u. u.name) ts t e)

-- ---- names
same_name : (name other : List ℕ) → bytes_eq name other ≡ true → name ≡ other
same_name name other e = (bytes_eq-Decides name other).0 e

pub firsts_more : (ts : List TypeName) (t : TypeName) (old new : BTreeMap (Bor (List ℕ)) ℕ) → word_among ts t.name ≡ None
    → UpdatesBy (λ x y. slice_cmp nat_cmp x.now y.now) (λ k. slice_cmp nat_cmp t.name k.now) old new (Some t.word)
    → AreFirsts ts old → AreFirsts (ts ++ t ∷ []) new
firsts_more ts t old new none updates are = λ name.
    btree_map_updates_str t.name old new (Some t.word) updates name ∙ go name (bytes_eq t.name name) refl
  where
    go : (name : List ℕ) (b : Bool) → bytes_eq t.name name ≡ b
        → cond b (Some t.word) (get_by (λ k. slice_cmp nat_cmp name k.now) old) ≡ word_among (ts ++ t ∷ []) name
    go name true e =
        let before = subst (λ (n : List ℕ). word_among ts n ≡ None) (same_name t.name name e) none in
        sym (more_new (λ u. bytes_eq u.name name) (λ u. u.word) ts t e before)
    go name false e = are name ∙ sym (more_other (λ u. bytes_eq u.name name) (λ u. u.word) ts t e)

pub firsts_same : (ts : List TypeName) (t : TypeName) (old : BTreeMap (Bor (List ℕ)) ℕ) → is_some (word_among ts t.name) ≡ true
    → AreFirsts ts old → AreFirsts (ts ++ t ∷ []) old
firsts_same ts t old some are = λ name. are name ∙ go name (bytes_eq t.name name) refl
  where
    go : (name : List ℕ) (b : Bool) → bytes_eq t.name name ≡ b → word_among ts name ≡ word_among (ts ++ t ∷ []) name
    go name true e =
        let before = subst (λ (n : List ℕ). is_some (word_among ts n) ≡ true) (same_name t.name name e) some in
        sym (more_found (λ u. bytes_eq u.name name) (λ u. u.word) ts t before)
    go name false e = sym (more_other (λ u. bytes_eq u.name name) (λ u. u.word) ts t e)
