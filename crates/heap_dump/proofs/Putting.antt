-- Pieces that are put into a text one after another.
use Rattle.std.proofs.Common.{◌≡◌, ◌∙◌, ◌+◌, ℕ, Bool, true, false, List, [], ◌∷◌, ◌++◌, Option, Some, None}
use Rattle.std.proofs.Common.{take, refl, sym, ap, subst, append_assoc, add-one}
use Rattle.std.specs.Prelude.{Result, Ok, Err, IfOk, slice_get, if◌then◌else◌}
use Rattle.std.specs.List.{flat_map}
use Rattle.std.proofs.lemmas.List.{append-nil, take_more}
use Rattle.std.proofs.lemmas.Option.{slice_get_within, get_or_from_slice_get}
use Rattle.std.proofs.lemmas.Grind.{flat_map-append}
use Rattle.script_text.specs.Texts.{Adds}
use Rattle.heap_dump.specs.Lists.{text_below}

pub adds_nothing : (t : Option (List ℕ)) → Adds t [] t
adds_nothing None = tt
adds_nothing (Some bytes) = (bytes, refl, sym (append-nil bytes))

pub then_adds : (a b c : Option (List ℕ)) (x y : List ℕ) → Adds a x b → Adds b y c → Adds a (x ++ y) c
then_adds a b None x y p q = tt
then_adds a b (Some bytes) x y p q =
    let r = subst (λ (m : Option (List ℕ)). Adds a x m) q.1 p in
    (r.0, r.1, q.2 ∙ ap (λ (l : List ℕ). l ++ y) r.2 ∙ append_assoc r.0 x y)

-- the same pieces, said otherwise
pub adds_as : (a b : Option (List ℕ)) (x y : List ℕ) → x ≡ y → Adds a x b → Adds a y b
adds_as a b x y e p = subst (λ (l : List ℕ). Adds a l b) e p

pub adds_at : {A : Type 0} (f : A → List ℕ) (a b : Option (List ℕ)) (u v : A) → u ≡ v → Adds a (f v) b → Adds a (f u) b
adds_at f a b u v e p = adds_as a b (f v) (f u) (sym (ap f e)) p

pub adds_if : (a b : Option (List ℕ)) (c : Bool) (x y : List ℕ) → c ≡ true → Adds a x b → Adds a (if c then x else y) b
adds_if a b true x y e p = p
adds_if a b false x y e p = cc

pub adds_else : (a b : Option (List ℕ)) (c : Bool) (x y : List ℕ) → c ≡ false → Adds a y b → Adds a (if c then x else y) b
adds_else a b true x y e p = cc
adds_else a b false x y e p = p

-- ---- item by item
flat_map_one : {A : Type 0} (f : A → List ℕ) (xs : List A) (x : A) → flat_map f (xs ++ x ∷ []) ≡ flat_map f xs ++ f x
flat_map_one f xs x = flat_map-append f xs (x ∷ []) ∙ ap (λ (l : List ℕ). flat_map f xs ++ l) (append-nil (f x))

take_one : {A : Type 0} (xs : List A) (i : ℕ) (x : A) → slice_get xs i ≡ Some x → take (i + 1) xs ≡ take i xs ++ x ∷ []
take_one {A = A} xs i x e = take_more xs i x (slice_get_within xs i x e)
    ∙ ap (λ (y : A). take i xs ++ y ∷ []) (get_or_from_slice_get xs i x x e)

pub adds_more : {A : Type 0} (f : A → List ℕ) (xs : List A) (i : ℕ) (x : A) (a b c : Option (List ℕ)) → slice_get xs i ≡ Some x
    → Adds a (flat_map f (take i xs)) b → Adds b (f x) c → Adds a (flat_map f (take (i + 1) xs)) c
adds_more f xs i x a b c e p q =
    adds_as a c (flat_map f (take i xs) ++ f x) (flat_map f (take (i + 1) xs))
    (sym (ap (flat_map f) (take_one xs i x e) ∙ flat_map_one f (take i xs) x)) (then_adds a b c _ _ p q)

-- what is told of a number more
pub adds_below : (f : ℕ → List ℕ) (i : ℕ) (a b c : Option (List ℕ)) → Adds a (text_below f i) b → Adds b (f i) c
    → Adds a (text_below f (i + 1)) c
adds_below f i a b c p q = adds_as a c (text_below f i ++ f i) (text_below f (i + 1)) (sym (ap (text_below f) (add-one i)))
    (then_adds a b c _ _ p q)

-- ---- the rest of a list

-- whatever completes the text by what is told of the rest makes it the first text with all of it
pub Leads : Option (List ℕ) → Option (List ℕ) → List ℕ → List ℕ → Type 0
Leads a b rest whole = (c : Option (List ℕ)) → Adds b rest c → Adds a whole c

pub leads_first : (a : Option (List ℕ)) (rest whole : List ℕ) → rest ≡ whole → Leads a a rest whole
unfolding Leads
leads_first a rest whole e = λ c p. adds_as a c rest whole e p

pub leads_on : (a b d : Option (List ℕ)) (x rest old whole : List ℕ) → old ≡ x ++ rest → Leads a b old whole → Adds b x d
    → Leads a d rest whole
unfolding Leads
leads_on a b d x rest old whole e h p = λ c q. h c (adds_as b c (x ++ rest) old (sym e) (then_adds b d c x rest p q))

pub leads_all : (a b : Option (List ℕ)) (rest whole : List ℕ) → rest ≡ [] → Leads a b rest whole → Adds a whole b
unfolding Leads
leads_all a b rest whole e h = h b (adds_as b b [] rest (sym e) (adds_nothing b))

pub leads_end : (a b d : Option (List ℕ)) (x rest whole : List ℕ) → rest ≡ x → Leads a b rest whole → Adds b x d → Adds a whole d
unfolding Leads
leads_end a b d x rest whole e h p = h d (adds_as b d x rest (sym e) p)

-- a text that ends with a piece
pub ends_with : {V E : Type 0} (items : V → List ℕ) (a b d : Option (List ℕ)) (x y : List ℕ) (r : Result V E) → Adds a x b → Adds b y d
    → IfOk r (λ v. d ≡ Some (items v)) → IfOk r (λ v. (front : List ℕ) × (items v ≡ front ++ y))
ends_with items a b d x y (Err e) p q told = tt
ends_with items a b None x y (Ok v) p q told = absurd (cc)
ends_with items a b (Some z) x y (Ok v) p q told = (q.0, (let same : items v ≡ z = cc in same) ∙ q.2)

-- a text that begins as the empty one
pub told_text : {V E : Type 0} (items : V → List ℕ) (a b : Option (List ℕ)) (x : List ℕ) (r : Result V E) → a ≡ Some []
    → IfOk r (λ v. b ≡ Some (items v)) → Adds a x b → IfOk r (λ v. items v ≡ x)
told_text items a b x (Err e) none told p = tt
told_text items a b x (Ok v) none told p =
    let q = subst (λ (m : Option (List ℕ)). Adds a x m) told p in
    let first : q.0 ≡ [] = cc in
    q.2 ∙ ap (λ (l : List ℕ). l ++ x) first
