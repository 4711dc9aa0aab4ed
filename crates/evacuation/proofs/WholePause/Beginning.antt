-- A pause begins.
use Rattle.std.proofs.Common.{◌≡◌, ◌*◌, ◌/◌, ◌%◌, ◌≤◌, ◌∙◌}
use Rattle.std.proofs.Common.{ℕ, Bool, true, false, [], Option, Some, None, length, refl, sym, ap, subst, inl, arith}
use Rattle.std.proofs.lemmas.List.Sums.{count_by-le-length}
use Rattle.heap_model.specs.Heap.{Stored}
use Rattle.heap_model.specs.Evacuation.{IsEvacuating}
use Rattle.heap_model.proofs.Evacuated.{start}
use Rattle.regions.specs.Tiles.{Tile, Object, Forwarded}
use Rattle.regions.specs.Table.{Region, Free, Table, HasNoForwarded, is_free, kind_of, moved_to, region_at}
use Rattle.regions.specs.Table.{region_kind, nth_region, region_tile, tile_in, free_count}
use Rattle.regions.specs.Rows.{kind_is_free}
use Rattle.regions.specs.Tiles.{Filler}
use Rattle.regions.specs.declared.row.Kind.TheVariants as kinds
use Rattle.regions.proofs.Tiles.ForwardedLaws.{moved_in}
use Rattle.regions.proofs.Words.Sizes.{EachForwardedIn-imp}
use Rattle.object_copy.specs.Copies.{no_destinations}
use Rattle.object_copy.proofs.Frees.{free_by_kind}
use Rattle.object_copy.proofs.Copied.{tile_of_object}
use Rattle.evacuation.specs.Space.{IsDestination, flag}
use Rattle.evacuation.specs.Turns.{Pause, IsPause, IsTurn, TableStays, in_set, kept_now, plan, space}

-- contradictions over plain variables: in a proof with a whole pause in scope a tactic reads all of it
clash : {A : Type 0} (m : Option A) (x : A) → m ≡ None → m ≡ Some x → ⊥
clash m x p q = cc

free_ordinary : kinds.Free ≡ kinds.Ordinary → ⊥
free_ordinary e = cc

unfree : (x y : Bool) → x ≡ true → x ≡ y → y ≡ false → ⊥
unfree x y e g h = cc

pub no_tile : (t : Table) (a : ℕ) → kind_of t (a / t.words_per_region) ≡ kinds.Free → tile_in t a ≡ None
unfolding kind_of tile_in region_at nth_region
no_tile t a e = go (nth_region t (a / t.words_per_region)) refl
  where
    go : (r : Region) → nth_region t (a / t.words_per_region) ≡ r → tile_in t a ≡ None
    go Free f = ap (λ (q : Region). region_tile q (a % t.words_per_region)) f
    go _ f = absurd (let g = sym (ap region_kind f) ∙ e in cc)

not_moved : (t : Table) (a : ℕ) → HasNoForwarded t → moved_to (tile_in t a) ≡ None
not_moved t a m = go (tile_in t a) refl
  where
    go : (o : Option Tile) → tile_in t a ≡ o → moved_to (tile_in t a) ≡ None
    go None e = ap moved_to e
    go (Some (Object s)) e = ap moved_to e
    go (Some (Filler n)) e = ap moved_to e
    go (Some (Forwarded to n)) e = absurd (moved_in (λ _. ⊥) t a to n m e)

kept_start : (p : Pause) → kept_now p p.start ≡ (plan p).heap.kept
unfolding kept_now
kept_start p = refl

module _ (p : Pause) (q : IsPause p) (room : 2 * (space p p.start).left ≤ free_count p.start * p.start.words_per_region)
    (limit : (space p p.start).left ≤ p.limit) (n : ℕ) (list : n ≡ length p.start.regions) where
  t : Table
  t = p.start

  no_free_chosen : (k : ℕ) → is_free (nth_region p.start k) ≡ true → flag p.chosen k ≡ false
  no_free_chosen k e = go (flag p.chosen k) refl
    where
      go : (b : Bool) → flag p.chosen k ≡ b → flag p.chosen k ≡ false
      go false f = f
      go true f = absurd (unfree _ _ e (free_by_kind p.start k) (ap kind_is_free (q.ordinary k f)))

  evacuating : IsEvacuating (in_set p) (plan p).heap (space p p.start).forward (record { kept = kept_now p p.start; roots = p.roots })
  evacuating =
      subst (λ (k : ℕ → Option Stored).
      IsEvacuating (in_set p) (plan p).heap (space p p.start).forward (record { kept = k; roots = p.roots })) (sym (kept_start p))
      (subst (λ (f : ℕ → Option ℕ). IsEvacuating (in_set p) (plan p).heap f (plan p).heap)
      (λ i a. sym (not_moved p.start a q.unmoved) i) (start (in_set p) (plan p).heap))

  stays : TableStays p p.start
  stays = record {
    size = refl;
    count = refl;
    chosen = q.ordinary;
    was_free = λ k e. inl e;
    lowest = λ j k fj free f o. absurd (free_ordinary (sym f ∙ o));
    kinds_same = λ k e m. refl;
    used = λ k e m. refl;
    objects = λ a x o e. (x, e, record { name = refl; values = refl; pointers = refl; weaks = refl; held = refl });
    none = λ a o m e. e;
    unkept = λ a o m e. refl;
    filled = λ k f o. absurd (free_ordinary (sym f ∙ o));
    small = λ a x o f e. absurd (clash _ _ (no_tile p.start a f) (tile_of_object p.start a x e));
    moved = λ a to m e. absurd (clash _ _ (not_moved p.start a q.unmoved) (ap moved_to e));
    live = λ a u f e. absurd (clash _ _ (no_tile p.start a f) e);
    targets = EachForwardedIn-imp (λ _. ⊥) (λ to. in_set p to ≡ false) p.start.regions (λ to x. absurd x) q.unmoved;
  }

  none_taken : (k : ℕ) → IsDestination (no_destinations n) k → ⊥
  none_taken k w = clash None _ refl w.is

  pub start_turn : IsTurn p p.start (no_destinations n)
  start_turn = record {
    copying = record {
      heap = evacuating;
      free = no_free_chosen;
      taken = λ k w. absurd (none_taken k w);
      last = λ k e. absurd (clash None _ refl e);
      last_at = λ k i e f. absurd (clash None _ refl e);
      apart = λ k w. absurd (none_taken k w);
      placed = λ a b i e. absurd (clash _ _ (not_moved p.start a q.unmoved) e);
      room = room;
      list = (let c = count_by-le-length is_free p.start.regions in omega arith);
      limit = (let l = limit in omega arith);
      tally = record {
        from = [];
        distinct = λ i j a e. absurd cc;
        forwarded = λ i a e. absurd cc;
        each = λ a b i e. absurd (clash _ _ (not_moved p.start a q.unmoved) e);
        total = refl;
      };
      places = (let l = list in omega arith);
      frees = omega arith;
      spared = refl;
    };
    table = stays;
    taken = λ k w. absurd (none_taken k w);
  }
