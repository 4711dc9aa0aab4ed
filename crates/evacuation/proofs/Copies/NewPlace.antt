-- The new place of a reached object.
use Rattle.std.proofs.Common.{◌≡◌, ◌≢◌, ◌+◌, ◌*◌, ◌/◌, ◌<◌, ◌≤◌, ◌∙◌, ℕ, suc, zero, false, Option, Some, None, length, refl}
use Rattle.std.proofs.Common.{sym, ap, subst, inl, inr, arith, IsSome, IfSome}
use Rattle.std.proofs.lemmas.Bool.{cases_lt}
use Rattle.heap_model.specs.Heap.{Stored}
use Rattle.regions.specs.Tiles.{Tile, Object, tile_size}
use Rattle.regions.specs.Table.{Table, kind_of, moved_to, object_at, object_words, tile_in, tile_object, EachForwardedIn, free_count}
use Rattle.regions.specs.Shaped.{IsShaped}
use Rattle.regions.specs.declared.row.Kind.TheVariants as kinds
use Rattle.regions.proofs.Words.Sizes.{EachForwardedIn-imp}
use Rattle.refinement.proofs.Holders.{object_within}
use Rattle.object_copy.specs.Copies.{Destinations, CanTake, CopiesAndForwards, CopiesObject, fill_of}
use Rattle.object_copy.proofs.Copied as copied
use Rattle.evacuation.specs.Space.{CopiesTo, HasCopyRoom, IsNamed, filled}
use Rattle.evacuation.specs.Turns.{Pause, IsPause, IsTurn, After, all_words, in_set, kept_now, layout, plan, space}
use Rattle.evacuation.proofs.Copies.LeftWords.{left_has}
use Rattle.evacuation.proofs.Turns.KeptObjects.{kept_object, object_of}
use Rattle.evacuation.proofs.Copies.ObjectCopied.{named_object, named_small, copied_copying, copied_after, frame}
use Rattle.evacuation.proofs.Copies.TableCopied.{copies_to, copy_stays, copy_taken, filled_is}
use Rattle.evacuation.specs.declared.room.Notes.{Notes}

positive : (words free : ℕ) → 0 < free * words → 0 < free
positive words zero h = omega arith
positive words (suc free) h = omega arith

more : (words free fill size left : ℕ) → 2 * (left + fill) ≤ (free + 1) * words → size ≤ left → words < fill + size → 0 < free
more words zero fill size left h s n = omega arith
more words (suc free) fill size left h s n = omega arith

room_place : (words free left size : ℕ) (last : Option ℕ) → HasCopyRoom words free last left → 0 < size
    → size ≤ left → CanTake words free last size
room_place words free left size None h p s = positive words free (omega arith)
room_place words free left size (Some fill) h p s = elim (cases_lt words (fill + size)) [
  | inl n ↦ inr (more words free fill size left h s n)
  | inr n ↦ inl n
]

pub is_some : (o : Option Stored) (x : Stored) → o ≡ Some x → IsSome o
is_some o x e = rw e refl

pub tile_some : (o : Option Tile) (x : Stored) → tile_object o ≡ Some x → IsSome o
tile_some None x e = absurd cc
tile_some (Some u) x e = refl

moved_some : (o : Option Tile) (b : ℕ) → moved_to o ≡ Some b → IsSome o
moved_some None b e = absurd cc
moved_some (Some u) b e = refl

if_some : (P : ℕ → Type 0) (o : Option ℕ) → ((k : ℕ) → o ≡ Some k → P k) → IfSome o P
if_some P None f = tt
if_some P (Some k) f = f k refl

module _ (p : Pause) (q : IsPause p) (t : Table) (d : Destinations) (turn : IsTurn p t d) (shaped : IsShaped t) (from : ℕ)
    (named : IsNamed (layout p) (plan p) from) where
  object_if : moved_to (tile_in t from) ≡ None → kept_now p t from ≡ Some named.object
  object_if un = named_object (layout p) (plan p) (space p t) d from turn.copying named un

  pub tile_stands : IsSome (tile_in t from)
  tile_stands = go (moved_to (tile_in t from)) refl
    where
      go : (o : Option ℕ) → moved_to (tile_in t from) ≡ o → IsSome (tile_in t from)
      go None e = tile_some (tile_in t from) named.object
          (sym (object_of t from (tile_in t from) refl) ∙ kept_object p t from named.object (object_if e))
      go (Some b) e = moved_some (tile_in t from) b e

  module _ (un : moved_to (tile_in t from) ≡ None) where
    abbrev x : Stored
    x = named.object

    kept : kept_now p t from ≡ Some x
    kept = object_if un

    pub object : object_at t from ≡ Some x
    object = kept_object p t from x kept

    pub some_object : IsSome (object_at t from)
    some_object = is_some (object_at t from) x object

    size : object_words t from ≡ tile_size (Object x)
    size = copied.words_of t from x object

    halves : 2 * tile_size (Object x) ≤ p.start.words_per_region
    halves = named_small (layout p) (plan p) (space p t) d from x q.plan_is turn.copying named un kept

    pub small : object_words t from ≤ t.words_per_region
    small = let a = size in let b = halves in let c = turn.table.size in omega arith

    within : tile_size (Object x) ≤ (space p t).left
    within =
        left_has (kept_now p t) (in_set p) (all_words p) from x
        (let a = object_within t from x shaped object in
        let b = turn.table.count in
        let e = turn.table.size in
        let f : length t.regions * t.words_per_region ≡ all_words p = rw (b, e) refl in
        omega arith) named.inside kept

    pub ordinary : kind_of t (from / t.words_per_region) ≡ kinds.Ordinary
    ordinary = subst (λ (n : ℕ). kind_of t (from / n) ≡ kinds.Ordinary) (sym turn.table.size)
        (turn.table.chosen (from / p.start.words_per_region) named.inside)

    pub untargeted : EachForwardedIn (λ to. to ≢ from) t.regions
    untargeted = EachForwardedIn-imp (λ to. in_set p to ≡ false) (λ to. to ≢ from) t.regions
        (λ to o e. let a = ap (in_set p) e in let b = named.inside in absurd cc) turn.table.targets

    pub last_known : IfSome d.last (λ k. k < length t.regions)
    last_known = if_some (λ k. k < length t.regions) d.last
        (λ k e. let r = turn.taken k (turn.copying.last k e) in let a = r.2 in let b = turn.table.count in omega arith)

    pub last_ordinary : IfSome d.last (λ k. kind_of t k ≡ kinds.Ordinary)
    last_ordinary = if_some (λ k. kind_of t k ≡ kinds.Ordinary) d.last (λ k e. (turn.taken k (turn.copying.last k e)).1)

    pub can_place : CanTake t.words_per_region (free_count t) (fill_of t d.last) (object_words t from)
    can_place =
        subst (λ (n : ℕ). CanTake t.words_per_region (free_count t) (fill_of t d.last) n) (sym size)
        (subst (λ (n : ℕ). CanTake n (free_count t) (fill_of t d.last) (tile_size (Object x))) (sym turn.table.size)
        (subst (λ (o : Option ℕ). CanTake p.start.words_per_region (free_count t) o (tile_size (Object x))) (filled_is p t d.last)
        (room_place p.start.words_per_region (free_count t) (space p t).left (tile_size (Object x))
        (filled (space p t) d.last) turn.copying.room (omega arith) within)))

    pub count : d.words + object_words t from < 4294967296
    count = let a = size in let b = within in let c = turn.copying.limit in let e = q.plan_is.limit in omega arith

    module _ (t' : Table) (d' : Destinations) (to : ℕ)
        (c : (y : Stored) → object_at t from ≡ Some y → CopiesAndForwards t t' d d' from to y)
        (changes : (y : Stored) (k : ℕ) → object_at t from ≡ Some y → d'.last ≡ Some k → CopiesObject t t' k from to y) where
      abbrev copy : CopiesAndForwards t t' d d' from to x
      copy = c x object

      to_space : CopiesTo (layout p) (space p t) (space p t') d d' from to x
      to_space = copies_to p q t t' d d' turn shaped from to x named.inside kept halves copy (changes x)

      placed_turn : IsTurn p t' d'
      placed_turn = record {
        copying = copied_copying (layout p) (plan p) (space p t) (space p t') d d' from to x turn.copying to_space named kept un halves;
        table = copy_stays p q t t' d d' turn shaped from to x named.inside kept halves copy (changes x);
        taken = copy_taken p q t t' d d' turn shaped from to x named.inside kept halves copy (changes x);
      }

      -- the turn after the copy, where the copy is, and what stays
      pub placed : IsTurn p t' d' × ((moved_to (tile_in t' from) ≡ Some to) × (((noted : Notes) → After p noted noted t t' d d')
          × ((b : ℕ) (y : Stored) → in_set p b ≡ false → kept_now p t b ≡ Some y → kept_now p t' b ≡ Some y)))
      placed = (
        placed_turn,
        (
          to_space.forwarded,
          (
            λ noted. copied_after (layout p) (plan p) (space p t) (space p t') d d' from to x turn.copying to_space named kept un
                halves noted,
            λ b y. frame (layout p) (plan p) (space p t) (space p t') d d' from to x turn.copying to_space named kept un halves b y,
          ),
        ),
      )
