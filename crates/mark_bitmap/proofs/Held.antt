-- The held object, the stack and the fingers: what they tell of grey objects as one more is grey, as one is scanned, and with fewer marks.
use Rattle.regions.proofs.Common.{◌≡◌, ◌≢◌, ◌<◌, ◌≤◌, ◌+◌, ◌/◌, ◌∙◌, ◌⊎◌, ◌∷◌, inl, inr, ℕ, Bool, true, false, List, [], length, set, sym}
use Rattle.regions.proofs.Common.{ap, arith, refl, Option, Some, None, min, max, get_or-set_same, get_or-set_other, get_or}
use Rattle.regions.proofs.Common.{subst, if◌then◌else◌}
use Rattle.regions.proofs.Common.{length-append, not, ◌&&◌, MatchOption, and_parts, cases_eq, cases_lt, cases_Bool, has}
use Rattle.std.proofs.Math.ListN.{get_or-append}
use Rattle.std.proofs.Math.Seq.{get_or-append_seam}
use Rattle.std.proofs.lemmas.Bool.{and_from, and_right, ltb-true}
use Rattle.mark_bitmap.specs.Marks.{is_marked, HasNone, IsLowest}
use Rattle.mark_bitmap.specs.Stack.{Stack, AreApart, IsOn, has_room, with_object}
use Rattle.mark_bitmap.specs.Grey.{Scans, HasFingers, HasNoFinger, HoldsNext, IsLowestBeside, OfStack, OfFingers}
use Rattle.mark_bitmap.specs.Grey.{finger_of, is_grey, put_aside}
use Rattle.mark_bitmap.specs.Summary.{HasNoMember}
use Rattle.mark_bitmap.proofs.Summaries.{has_set_here, has_set_there}

-- ---- the stack with one object more
module _ (s : Stack) (h : ℕ) where
  longer : length (with_object s h).objects ≡ length s.objects + 1
  longer = length-append s.objects (h ∷ [])

  on_more : (b : ℕ) → IsOn s b → IsOn (with_object s h) b
  on_more b on = record {
    place = on.place;
    there = omega (arith, on.there, longer);
    is = get_or-append s.objects (h ∷ []) 0 on.place on.there ∙ on.is;
  }

  on_last : IsOn (with_object s h) h
  on_last = record {
    place = length s.objects;
    there = omega (arith, longer);
    is = get_or-append_seam s.objects h [] 0;
  }

  on_split : (b : ℕ) → IsOn (with_object s h) b → IsOn s b ⊎ (b ≡ h)
  on_split b on = elim (cases_lt on.place (length s.objects)) [
    | inl below ↦ inl (record {
      place = on.place;
      there = below;
      is = sym (get_or-append s.objects (h ∷ []) 0 on.place below) ∙ on.is;
    })
    | inr above ↦
        let last : on.place ≡ length s.objects = omega (arith, above, on.there, longer) in
        inr (sym on.is ∙ ap (λ (i : ℕ). get_or (with_object s h).objects i 0) last ∙ get_or-append_seam s.objects h [] 0)
  ]

  apart_more : AreApart s → (IsOn s h → h ≢ h) → AreApart (with_object s h)
  apart_more apart new i j less inside = elim (cases_lt j (length s.objects)) [
    | inl below ↦ λ e. apart i j less below
        (sym (get_or-append s.objects (h ∷ []) 0 i (omega (arith, less, below))) ∙ e ∙ get_or-append s.objects (h ∷ []) 0 j below)
    | inr above ↦ λ e.
        let last : j ≡ length s.objects = omega (arith, above, inside, longer) in
        let first : i < length s.objects = omega (arith, less, last) in
        new (record {
          place = i;
          there = first;
          is = sym (get_or-append s.objects (h ∷ []) 0 i first) ∙ e
              ∙ ap (λ (k : ℕ). get_or (with_object s h).objects k 0) last ∙ get_or-append_seam s.objects h [] 0;
        }) refl
  ]

  apart_less : AreApart (with_object s h) → AreApart s
  apart_less apart i j less inside e =
      apart i j less (omega (arith, inside, longer))
      (get_or-append s.objects (h ∷ []) 0 i (omega (arith, less, inside)) ∙ e ∙ sym (get_or-append s.objects (h ∷ []) 0 j inside))

  last_apart : AreApart (with_object s h) → IsOn s h → h ≢ h
  last_apart apart on _ =
      apart on.place (length s.objects) on.there (omega (arith, longer))
      (get_or-append s.objects (h ∷ []) 0 on.place on.there ∙ on.is ∙ sym (get_or-append_seam s.objects h [] 0))

none_on : (s : Stack) (b : ℕ) → s.objects ≡ [] → IsOn s b → b ≢ b
none_on s b empty on _ = omega (arith, on.there, ap length empty)

-- ---- what the fingers tell
module _ (marks : List Bool) (scans : Scans) (f : HasFingers marks scans) where
  -- the held object is grey, and none is if nothing is held
  pub held_grey : (held : Option ℕ) → scans.held ≡ held
      → MatchOption held (HasNone (is_grey marks scans) 0) (λ found. is_grey marks scans found ≡ true)
  held_grey None is = λ a _. f.none a is
  held_grey (Some found) is = f.held found is

  -- it is the lowest one where the stack has no room
  pub held_lowest : scans.stack.room ≡ 0 → scans.looked ≡ 0 → (held : Option ℕ) → scans.held ≡ held
      → MatchOption held (HasNone (is_grey marks scans) 0) (IsLowest (is_grey marks scans) 0)
  held_lowest by_address whole None is = λ a _. f.none a is
  held_lowest by_address whole (Some found) is = record {
    at_least = omega arith;
    is_in = f.held found is;
    lowest = λ a _ less. f.lowest by_address whole found a is less;
  }

module _ (marks marks' : List Bool) (scans : Scans) (fewer : (a : ℕ) → is_marked marks' a ≡ true → is_marked marks a ≡ true) where
  black : (a : ℕ) → is_grey marks scans a ≡ false → is_grey marks' scans a ≡ false
  black a none = elim (cases_Bool (is_grey marks' scans a)) [
    | inl both ↦
        let parts = and_parts (is_marked marks' a) (not (is_marked scans.scanned a)) both in
        absurd (let grey = and_from (is_marked marks a) (not (is_marked scans.scanned a)) (fewer a parts.0) parts.1 in cc)
    | inr neither ↦ neither
  ]

  pub fewer_fingers : ((a : ℕ) → scans.held ≡ Some a → is_marked marks' a ≡ true)
      → ((a : ℕ) → IsOn scans.stack a → is_marked marks' a ≡ true) → HasFingers marks scans → HasFingers marks' scans
  fewer_fingers kept on_it f = record {
    each = λ a unset. elim (f.each a unset) [
      | inl held ↦ inl held
      | inr (inl on) ↦ inr (inl on)
      | inr (inr none) ↦ inr (inr (black a none))
    ];
    held = λ a held. and_from (is_marked marks' a) (not (is_marked scans.scanned a)) (kept a held)
        (and_parts (is_marked marks a) (not (is_marked scans.scanned a)) (f.held a held)).1;
    stacked = λ a on. and_from (is_marked marks' a) (not (is_marked scans.scanned a)) (on_it a on)
        (and_parts (is_marked marks a) (not (is_marked scans.scanned a)) (f.stacked a on)).1;
    apart = f.apart;
    beside = f.beside;
    lowest = λ by_address whole a b held less. black b (f.lowest by_address whole a b held less);
    none = λ a held. black a (f.none a held);
  }

module _ (marks : List Bool) (scans : Scans) (a : ℕ) (known : a < length marks) (unmarked : is_marked marks a ≡ false)
    (unscanned : is_marked scans.scanned a ≡ false) (f : HasFingers marks scans) where
  grey_there : (b : ℕ) → b ≢ a → is_grey (set marks a true) scans b ≡ is_grey marks scans b
  grey_there b other = ap (λ (x : Bool). x && not (is_marked scans.scanned b)) (get_or-set_other marks a b true false other)

  grey_here : (b : ℕ) → b ≡ a → is_grey (set marks a true) scans b ≡ true
  grey_here b same = ap (is_grey (set marks a true) scans) same
      ∙ and_from (is_marked (set marks a true) a) (not (is_marked scans.scanned a)) (get_or-set_same marks a true false known)
      (ap not unscanned)

  grey_other : (b : ℕ) → is_grey marks scans b ≡ true → b ≢ a
  grey_other b grey same = let yes = (and_parts (is_marked marks b) (not (is_marked scans.scanned b)) grey).0 in
      let no = ap (is_marked marks) same ∙ unmarked in cc

  grey_kept : (b : ℕ) → is_grey marks scans b ≡ true → is_grey (set marks a true) scans b ≡ true
  grey_kept b grey = grey_there b (grey_other b grey) ∙ grey

  module _ (h : ℕ) (held : scans.held ≡ Some h) where
    -- the stack has room: the one that was held is put on it
    pub stacked_grey : length scans.stack.objects < scans.stack.room
        → HasFingers (set marks a true) (record scans { held = Some a; stack = with_object scans.stack h })
    stacked_grey room = record {
      each = λ b unset. elim (cases_eq b a) [
        | inl same ↦ inl (ap Some (sym same))
        | inr other ↦ inr (elim (f.each b unset) [
          | inl is ↦ let same : b ≡ h = (let e = sym is ∙ held in cc) in
              inl (subst (λ (x : ℕ). IsOn (with_object scans.stack h) x) (sym same) (on_last scans.stack h))
          | inr (inl on) ↦ inl (on_more scans.stack h b on)
          | inr (inr none) ↦ inr (grey_there b other ∙ none)
        ])
      ];
      held = λ b is. grey_here b (let same : a ≡ b = cc in sym same);
      stacked = λ b on. elim (on_split scans.stack h b on) [
        | inl was ↦ grey_kept b (f.stacked b was)
        | inr same ↦ grey_kept b (ap (is_grey marks scans) same ∙ f.held h held)
      ];
      apart = apart_more scans.stack h f.apart (λ on _. f.beside h on held);
      beside = λ b on is. let same : b ≡ a = (let e : a ≡ b = cc in sym e) in elim (on_split scans.stack h b on) [
        | inl was ↦ grey_other b (f.stacked b was) same
        | inr last ↦ grey_other b (ap (is_grey marks scans) last ∙ f.held h held) same
      ];
      lowest = λ by_address _ b c is less. absurd (omega (arith, room, by_address));
      none = λ b is. absurd (cc);
    }

    -- the stack has no room: the lower of the two is held, and the finger of the other is set
    pub fingered_grey : finger_of (max h a) < length scans.fingers → HasFingers (set marks a true)
        (record scans { fingers = set scans.fingers (finger_of (max h a)) true; held = Some (min h a) })
    unfolding finger_of
    fingered_grey room = record {
      each = λ b unset. elim (cases_eq b (min h a)) [
        | inl lower ↦ inl (ap Some (sym lower))
        | inr other ↦ inr (elim (cases_eq (finger_of b) (finger_of (max h a))) [
          | inl set ↦ absurd (let yes = has_set_here scans.fingers (finger_of (max h a)) (finger_of b) true room set in cc)
          | inr unmoved ↦
              let was : has scans.fingers (finger_of b) ≡ false =
              sym (has_set_there scans.fingers (finger_of (max h a)) (finger_of b) true unmoved) ∙ unset in
              let differs : b ≢ max h a = λ same. unmoved (ap finger_of same) in
              let not_held : b ≢ h = λ same. omega (arith, same, other, differs) in
              elim (f.each b was) [
                | inl is ↦ absurd (not_held (let e = sym is ∙ held in cc))
                | inr (inl on) ↦ inl on
                | inr (inr none) ↦ inr (grey_there b (λ same. omega (arith, same, other, differs)) ∙ none)
              ]
        ])
      ];
      held = λ b is. let lower : min h a ≡ b = cc in elim (cases_eq b a) [
        | inl same ↦ grey_here b same
        | inr other ↦ grey_there b other ∙ ap (is_grey marks scans) (omega (arith, lower, other)) ∙ f.held h held
      ];
      stacked = λ b on. grey_kept b (f.stacked b on);
      apart = f.apart;
      beside = λ b on is. let lower : min h a ≡ b = cc in elim (cases_eq b h) [
        | inl same ↦ f.beside b on (held ∙ ap Some (sym same))
        | inr other ↦ grey_other b (f.stacked b on) (omega (arith, lower, other))
      ];
      lowest = λ by_address whole b c is less. let lower : min h a ≡ b = cc in
          grey_there c (λ same. omega (arith, lower, less, same)) ∙ f.lowest by_address whole h c held (omega (arith, lower, less));
      none = λ b is. absurd (cc);
    }

    -- the scan of the held object has begun: it stays held, and the other one is put on the stack
    pub aside_stacked : length scans.stack.objects < scans.stack.room
        → HasFingers (set marks a true) (record scans { stack = with_object scans.stack a })
    aside_stacked room = record {
      each = λ b unset. elim (cases_eq b a) [
        | inl same ↦ inr (inl (subst (λ (x : ℕ). IsOn (with_object scans.stack a) x) (sym same) (on_last scans.stack a)))
        | inr other ↦ elim (f.each b unset) [
          | inl is ↦ inl is
          | inr (inl on) ↦ inr (inl (on_more scans.stack a b on))
          | inr (inr none) ↦ inr (inr (grey_there b other ∙ none))
        ]
      ];
      held = λ b is. grey_kept b (f.held b is);
      stacked = λ b on. elim (on_split scans.stack a b on) [
        | inl was ↦ grey_kept b (f.stacked b was)
        | inr same ↦ grey_here b same
      ];
      apart = apart_more scans.stack a f.apart (λ on _. grey_other a (f.stacked a on) refl);
      beside = λ b on is. elim (on_split scans.stack a b on) [
        | inl was ↦ f.beside b was is
        | inr last ↦ grey_other b (f.held b is) last
      ];
      lowest = λ by_address _ b c is less. absurd (omega (arith, room, by_address));
      none = λ b is. absurd (let e = sym held ∙ is in cc);
    }

    -- or its finger is set
    pub aside_fingered : finger_of a < length scans.fingers → scans.looked ≢ 0
        → HasFingers (set marks a true) (record scans { fingers = set scans.fingers (finger_of a) true })
    unfolding finger_of
    aside_fingered room begun = record {
      each = λ b unset. elim (cases_eq (finger_of b) (finger_of a)) [
        | inl set ↦ absurd (let now = has_set_here scans.fingers (finger_of a) (finger_of b) true room set in cc)
        | inr unmoved ↦
            let was : has scans.fingers (finger_of b) ≡ false =
            sym (has_set_there scans.fingers (finger_of a) (finger_of b) true unmoved) ∙ unset in
            elim (f.each b was) [
              | inl is ↦ inl is
              | inr (inl on) ↦ inr (inl on)
              | inr (inr none) ↦ inr (inr (grey_there b (λ same. unmoved (ap finger_of same)) ∙ none))
            ]
      ];
      held = λ b is. grey_kept b (f.held b is);
      stacked = λ b on. grey_kept b (f.stacked b on);
      apart = f.apart;
      beside = f.beside;
      lowest = λ _ whole b c is less. absurd (begun whole);
      none = λ b is. absurd (let e = sym held ∙ is in cc);
    }

    aside_as : finger_of a < length scans.fingers → scans.looked ≢ 0 → (room : Bool) → has_room scans.stack ≡ room
        → HasFingers (set marks a true) (if room then record scans { stack = with_object scans.stack a }
        else record scans { fingers = set scans.fingers (finger_of a) true })
    aside_as known begun true is = aside_stacked (ltb-true (length scans.stack.objects) scans.stack.room is)
    aside_as known begun false is = aside_fingered known begun

    pub aside_grey : finger_of a < length scans.fingers → scans.looked ≢ 0 → HasFingers (set marks a true) (put_aside scans a)
    aside_grey known begun = aside_as known begun (has_room scans.stack) refl

module _ (marks : List Bool) (scans scans' : Scans) (object : ℕ) (scanned : scans'.scanned ≡ set scans.scanned object true)
    (known : object < length scans.scanned)
    (fallen : (i : ℕ) → has scans'.fingers i ≡ false → has scans.fingers i ≡ true → HasNoMember (is_grey marks scans') i)
    (f : HasFingers marks scans) where
  black_here : is_grey marks scans' object ≡ false
  black_here = and_right (is_marked marks object) (not (is_marked scans'.scanned object))
      (ap (λ (l : List Bool). not (is_marked l object)) scanned ∙ ap not (get_or-set_same scans.scanned object true false known))

  grey_still : (b : ℕ) → b ≢ object → is_grey marks scans' b ≡ is_grey marks scans b
  grey_still b other = ap (λ (l : List Bool). is_marked marks b && not (is_marked l b)) scanned
      ∙ ap (λ (x : Bool). is_marked marks b && not x) (get_or-set_other scans.scanned object b true false other)

  black_still : (b : ℕ) → is_grey marks scans b ≡ false → is_grey marks scans' b ≡ false
  black_still b none = elim (cases_eq b object) [
    | inl same ↦ ap (is_grey marks scans') same ∙ black_here
    | inr other ↦ grey_still b other ∙ none
  ]

  member : (a : ℕ) → a / 64 ≡ finger_of a
  unfolding finger_of
  member a = refl

  -- the held object is scanned
  module _ (held : scans.held ≡ Some object) where
    -- where its finger isn't set, an object was on the stack, or isn't grey
    was_on : (a : ℕ) → has scans'.fingers (finger_of a) ≡ false → IsOn scans.stack a ⊎ (is_grey marks scans' a ≡ false)
    was_on a unset = elim (cases_Bool (has scans.fingers (finger_of a))) [
      | inl set ↦ inr (fallen (finger_of a) unset set a (member a))
      | inr was ↦ elim (f.each a was) [
        | inl is ↦ let same : a ≡ object = (let e = sym is ∙ held in cc) in inr (ap (is_grey marks scans') same ∙ black_here)
        | inr (inl on) ↦ inl on
        | inr (inr none) ↦ inr (black_still a none)
      ]
    ]

    -- what is on the stack is grey still
    stacked_still : (a : ℕ) → IsOn scans.stack a → is_grey marks scans' a ≡ true
    stacked_still a on = grey_still a (λ e. f.beside a on (held ∙ ap Some (sym e))) ∙ f.stacked a on

    -- the last object of the stack is held
    of_stack : (found : ℕ) → scans'.held ≡ Some found → scans.stack ≡ with_object scans'.stack found
        → length scans.stack.objects ≤ scans.stack.room → HasFingers marks scans'
    of_stack found is popped fits =
        let apart : AreApart (with_object scans'.stack found) = subst AreApart popped f.apart in
        let was : (b : ℕ) → IsOn (with_object scans'.stack found) b → IsOn scans.stack b =
        λ b. subst (λ (s : Stack). IsOn s b) (sym popped) in
        record {
          each = λ a unset. elim (was_on a unset) [
            | inr none ↦ inr (inr none)
            | inl on ↦ elim (on_split scans'.stack found a (subst (λ (s : Stack). IsOn s a) popped on)) [
              | inl left ↦ inr (inl left)
              | inr last ↦ inl (is ∙ ap Some (sym last))
            ]
          ];
          held = λ a held. let same : found ≡ a = (let e = sym is ∙ held in cc) in
              ap (is_grey marks scans') (sym same) ∙ stacked_still found (was found (on_last scans'.stack found));
          stacked = λ a on. stacked_still a (was a (on_more scans'.stack found a on));
          apart = apart_less scans'.stack found apart;
          beside = λ a on held. let same : a ≡ found = (let e = sym held ∙ is in cc) in
              last_apart scans'.stack found apart (subst (λ (x : ℕ). IsOn scans'.stack x) same on) refl;
          lowest = λ by_address _ a b held less.
              absurd (omega (
                arith,
                fits,
                longer scans'.stack found,
                ap (λ (s : Stack). length s.objects) popped,
                ap (λ (s : Stack). s.room) popped,
                by_address,
              ));
          none = λ a held. absurd (let e = sym is ∙ held in cc);
        }

    -- the stack is empty
    module _ (empty : scans.stack.objects ≡ []) (same_stack : scans'.stack ≡ scans.stack) where
      beside_it : (a : ℕ) → has scans'.fingers (finger_of a) ≡ false → is_grey marks scans' a ≡ false
      beside_it a unset = elim (was_on a unset) [
        | inr none ↦ none
        | inl on ↦ absurd (none_on scans.stack a empty on refl)
      ]

      none_left : (a : ℕ) → IsOn scans'.stack a → a ≢ a
      none_left a on = none_on scans.stack a empty (subst (λ (s : Stack). IsOn s a) same_stack on)

      of_fingers : (next : Option ℕ) → scans'.held ≡ next
          → MatchOption next (HasNoFinger marks scans'.scanned scans'.fingers) (IsLowestBeside marks scans'.scanned scans'.fingers)
          → HasFingers marks scans'
      of_fingers None is lowest = record {
        each = λ a unset. inr (inr (beside_it a unset));
        held = λ a held. absurd (let e = sym is ∙ held in cc);
        stacked = λ a on. absurd (none_left a on refl);
        apart = subst AreApart (sym same_stack) f.apart;
        beside = λ a on _. none_left a on refl;
        lowest = λ _ _ a b held less. absurd (let e = sym is ∙ held in cc);
        none = λ a _. elim (cases_Bool (has scans'.fingers (finger_of a))) [
          | inl set ↦ lowest a set
          | inr unset ↦ beside_it a unset
        ];
      }
      of_fingers (Some found) is lowest = record {
        each = λ a unset. inr (inr (beside_it a unset));
        held = λ a held. let same : found ≡ a = (let e = sym is ∙ held in cc) in ap (is_grey marks scans') (sym same) ∙ lowest.0;
        stacked = λ a on. absurd (none_left a on refl);
        apart = subst AreApart (sym same_stack) f.apart;
        beside = λ a on _. none_left a on refl;
        lowest = λ _ _ a b held less. let same : found ≡ a = (let e = sym is ∙ held in cc) in
            elim (cases_Bool (has scans'.fingers (finger_of b))) [
              | inl set ↦ lowest.1 b (omega (arith, less, same)) set
              | inr unset ↦ beside_it b unset
            ];
        none = λ a held. absurd (let e = sym is ∙ held in cc);
      }

    pub scanned_held : length scans.stack.objects ≤ scans.stack.room → HoldsNext marks scans scans' → HasFingers marks scans'
    scanned_held fits (OfStack found is popped) = of_stack found is popped fits
    scanned_held fits (OfFingers empty same next) = of_fingers empty same scans'.held refl next

-- words of the held object are looked at
pub begun_held : (marks : List Bool) (scans : Scans) (words : ℕ) → words ≢ 0 → HasFingers marks scans
    → HasFingers marks (record scans { looked = words })
begun_held marks scans words begun f = record {
  each = f.each;
  held = f.held;
  stacked = f.stacked;
  apart = f.apart;
  beside = f.beside;
  lowest = λ _ whole. absurd (begun whole);
  none = f.none;
}

-- what is held next depends on the stack as it was, and on nothing else of before
pub next_after : (marks : List Bool) (old mid new : Scans) → mid.stack ≡ old.stack → HoldsNext marks mid new → HoldsNext marks old new
next_after marks old mid new same (OfStack found is popped) = OfStack found is (sym same ∙ popped)
next_after marks old mid new same (OfFingers empty kept next) =
    OfFingers (ap (λ (s : Stack). s.objects) (sym same) ∙ empty) (kept ∙ same) next
