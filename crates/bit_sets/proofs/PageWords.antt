-- Words in pages: what a page that is taken, and a word that is written, make of them.
use Rattle.std.proofs.Common.{◌≡◌, ◌≢◌, ◌+◌, ◌-◌, ◌*◌, ◌/◌, ◌^◌, ◌<◌, ◌≤◌, ◌⊎◌, ◌∙◌, ◌++◌, max, zero, suc, [], ◌∷◌, ℕ, Bool, true, false}
use Rattle.std.proofs.Common.{List, length, slice_index, set, replicate, eqb, bit_and, inl, inr, refl, sym, ap, arith, get_or-set_other}
use Rattle.std.proofs.Common.{get_or-set_same, length-set, ne_eqb, if◌then◌else◌, get_or-take, get_or-drop}
use Rattle.std.proofs.lemmas.Bool.{cases_lt, cases_eq}
use Rattle.std.proofs.lemmas.List.{get_or_past, get_or-replicate, length-replicate}
use Rattle.std.proofs.Math.ListN.{take, drop}
use Rattle.std.proofs.Math.Seq.{take-append_seam}
use Rattle.std.specs.Int.Bits.{and_zero_l}
use Rattle.std.proofs.lemmas.List.FromFn.{fill_by_all, length-map-range_with_len, get_or-map-range_with_len}
use Rattle.bit_sets.specs.Bits.{is_between}
use Rattle.bit_sets.specs.BitWords.{AreSame}
use Rattle.bit_sets.specs.Pages.{index_of, page_size, paged_word, words_of, taken_words, ArePages}
use Rattle.bit_sets.proofs.BitWords.{all_zeros}
use Rattle.bit_sets.proofs.BitRanges.{between_yes, between_no_below, between_no_above, between_same}

-- ---- one word
pub word_none : (places pool : List ℕ) (g : ℕ) → slice_index places (g / 512) ≡ 0 → paged_word places pool g ≡ 0
unfolding paged_word
word_none places pool g e =
    ap (λ (b : Bool). if b then 0 else slice_index pool (index_of places g)) (ap (λ (p : ℕ). eqb p 0) e)

pub word_there : (places pool : List ℕ) (g : ℕ) → 0 < slice_index places (g / 512)
    → paged_word places pool g ≡ slice_index pool (index_of places g)
unfolding paged_word
word_there places pool g h =
    ap (λ (b : Bool). if b then 0 else slice_index pool (index_of places g))
    (ne_eqb (slice_index places (g / 512)) 0 (omega arith))

-- ---- all words
pub length-words_of : (places pool : List ℕ) (n : ℕ) → length (words_of places pool n) ≡ n
unfolding words_of
length-words_of places pool n = length-map-range_with_len (paged_word places pool) 0 n

pub word_of : (places pool : List ℕ) (n g : ℕ) → g < n → slice_index (words_of places pool n) g ≡ paged_word places pool g
unfolding words_of
word_of places pool n g h = get_or-map-range_with_len (paged_word places pool) 0 n g g 0 h (omega arith)

pub words_are : (places pool : List ℕ) (n : ℕ) (ws : List ℕ) → length ws ≡ n
    → ((g : ℕ) → g < n → slice_index ws g ≡ paged_word places pool g) → words_of places pool n ≡ ws
unfolding words_of
words_are places pool n ws len each = sym (fill_by_all (paged_word places pool) ws n 0 len each)

pub words_same : (places pool places' pool' : List ℕ) (n : ℕ)
    → ((g : ℕ) → g < n → paged_word places' pool' g ≡ paged_word places pool g) → words_of places' pool' n ≡ words_of places pool n
words_same places pool places' pool' n same =
    words_are places' pool' n (words_of places pool n) (length-words_of places pool n)
    (λ g h. word_of places pool n g h ∙ sym (same g h))

pub words_none : (places pool : List ℕ) (n k : ℕ) → places ≡ replicate k 0 → words_of places pool n ≡ replicate n 0
words_none places pool n k e =
    words_are places pool n (replicate n 0) (length-replicate n 0)
    (λ g h. get_or-replicate n g 0 0 h
    ∙ sym (word_none places pool g (ap (λ (l : List ℕ). slice_index l (g / 512)) e ∙ all_zeros k (g / 512))))

pub words_empty : (places pool : List ℕ) (n : ℕ) → ArePages places pool n → length pool ≡ 0 → words_of places pool n ≡ replicate n 0
words_empty places pool n pages e =
    words_are places pool n (replicate n 0) (length-replicate n 0)
    (λ g h. get_or-replicate n g 0 0 h
    ∙ sym (word_none places pool g (elim (cases_lt 0 (slice_index places (g / 512))) [
      | inl there ↦ absurd (omega (arith, pages.inside (g / 512) there, e, h))
      | inr none ↦ omega arith
    ])))

pub group_known : (ws places pool : List ℕ) (n g : ℕ) → words_of places pool n ≡ ws → g < length ws → g < n
group_known ws places pool n g view h = omega (arith, length-words_of places pool n, ap length view)

pub word_read : (ws places pool : List ℕ) (n g : ℕ) → words_of places pool n ≡ ws → g < n → slice_index ws g ≡ paged_word places pool g
word_read ws places pool n g view h = ap (λ (l : List ℕ). slice_index l g) (sym view) ∙ word_of places pool n g h

-- ---- how many words are taken
pub taken_none : (k left : ℕ) → taken_words (replicate k 0) left ≡ 0
unfolding taken_words
taken_none zero left = refl
taken_none (suc k) left = taken_none k (left - 512)

taken_within : (places : List ℕ) (left : ℕ) → taken_words places left ≤ left
unfolding taken_words
taken_within [] left = omega arith
taken_within (zero ∷ places) left = omega (arith, taken_within places (left - 512))
taken_within (suc p ∷ places) left = omega (arith, taken_within places (left - 512))

taken_more : (places : List ℕ) (left page v : ℕ) → page < length places → slice_index places page ≡ 0 → 0 < v
    → taken_words (set places page v) left ≡ taken_words places left + page_size left page
unfolding taken_words
taken_more (zero ∷ places) left zero (suc v) h free some = omega arith
taken_more (suc p ∷ places) left zero (suc v) h free some = absurd (omega (arith, free))
taken_more (zero ∷ places) left (suc page) v h free some =
    let rest = taken_more places (left - 512) page v (omega arith) free some in
    omega (arith, rest)
taken_more (suc p ∷ places) left (suc page) v h free some =
    let rest = taken_more places (left - 512) page v (omega arith) free some in
    omega (arith, rest)
taken_more _ left _ _ h free some = absurd (omega arith)

pub page_has_room : (places pool : List ℕ) (len page : ℕ) → ArePages places pool len → 512 * page < len → slice_index places page ≡ 0
    → length pool + page_size len page ≤ len
page_has_room places pool len page pages known free =
    omega (
      arith,
      pages.no_more,
      taken_within (set places page 1) len,
      taken_more places len page 1 (omega (arith, pages.all)) free
          (omega arith),
    )

-- ---- a page is taken
pub page_taken : (places pool pool' : List ℕ) (len page : ℕ) → ArePages places pool len → 512 * page < len → slice_index places page ≡ 0
    → length pool' ≡ length pool + page_size len page → ArePages (set places page (length pool + 2 ^ 26 - 512 * page)) pool' len
page_taken places pool pool' len page pages known free more =
    let place : ℕ = length pool + 2 ^ 26 - 512 * page in
    let there : page < length places = omega (arith, pages.all) in
    let here : slice_index (set places page place) page ≡ place = get_or-set_same places page place 0 there in
    let other : (p : ℕ) → p ≢ page → slice_index (set places page place) p ≡ slice_index places p = λ p ne.
    get_or-set_other places page p place 0 ne in
    record {
      small = pages.small;
      all = omega (arith, pages.all, length-set {A = ℕ} places page place);
      inside = λ p. elim (cases_eq p page) [
        | inl e ↦ λ h. rw e (omega (arith, here, more))
        | inr ne ↦ λ h. omega (arith, other p ne, pages.inside p, more)
      ];
      apart = λ p q. elim (cases_eq p page) [
        | inl e ↦ elim (cases_eq q page) [
          | inl f ↦ λ h k a b. e ∙ sym f
          | inr ne ↦ λ h k a b. absurd (omega (arith, ap (slice_index (set places page place)) e, here, other q ne, pages.inside q))
        ]
        | inr ne ↦ elim (cases_eq q page) [
          | inl f ↦ λ h k a b. absurd (omega (arith, ap (slice_index (set places page place)) f, here, other p ne, pages.inside p))
          | inr nf ↦ λ h k a b. pages.apart p q (rw (← other p ne) h) (rw (← other q nf) k)
              (omega (arith, other p ne, other q nf)) (omega (arith, other p ne, other q nf))
        ]
      ];
      no_more = more ∙ sym (taken_more places len page place there free (omega arith) ∙ ap (λ (n : ℕ). n + page_size len page)
          (sym pages.no_more));
    }

pub taken_same : (places pool pool' : List ℕ) (len page g : ℕ) → ArePages places pool len → 512 * page < len → slice_index places page ≡ 0
    → AreSame pool' pool → paged_word (set places page (length pool + 2 ^ 26 - 512 * page)) pool' g ≡ paged_word places pool g
taken_same places pool pool' len page g pages known free same =
    let place : ℕ = length pool + 2 ^ 26 - 512 * page in
    let there : page < length places = omega (arith, pages.all) in
    elim (cases_eq (g / 512) page) [
      | inl e ↦
          let here : slice_index (set places page place) (g / 512) ≡ place = rw e (get_or-set_same places page place 0 there) in
          word_there (set places page place) pool' g (omega (arith, here)) ∙ same _
          ∙ get_or_past pool _ 0 (omega (arith, here)) ∙ sym (word_none places pool g (rw e free))
      | inr ne ↦
          let other : slice_index (set places page place) (g / 512) ≡ slice_index places (g / 512) =
          get_or-set_other places page (g / 512) place 0 ne in
          elim (cases_lt 0 (slice_index places (g / 512))) [
            | inl h ↦ word_there (set places page place) pool' g (omega (arith, other)) ∙ same _
                ∙ ap (λ (p : ℕ). slice_index pool (p + g - 2 ^ 26)) other ∙ sym (word_there places pool g h)
            | inr h ↦ word_none (set places page place) pool' g (omega (arith, other)) ∙ sym (word_none places pool g (omega arith))
          ]
    ]

-- ---- words of the pool are written
pub pages_kept : (places pool pool' : List ℕ) (len : ℕ) → ArePages places pool len → length pool' ≡ length pool → ArePages places pool' len
pages_kept places pool pool' len pages e = record {
  small = pages.small;
  all = pages.all;
  inside = λ p h. omega (arith, e, pages.inside p h);
  apart = pages.apart;
  no_more = e ∙ pages.no_more;
}

pub place_inside : (places pool : List ℕ) (len g : ℕ) → ArePages places pool len → g < len → 0 < slice_index places (g / 512)
    → index_of places g < length pool
place_inside places pool len g pages h there = omega (arith, pages.inside (g / 512) there)

pub place_high : (places pool : List ℕ) (len g : ℕ) → ArePages places pool len → 0 < slice_index places (g / 512)
    → 2 ^ 26 ≤ slice_index places (g / 512) + g
place_high places pool len g pages there = omega (arith, (pages.inside (g / 512) there).0)

pub word_written : (places pool : List ℕ) (len g v : ℕ) → ArePages places pool len → g < len → 0 < slice_index places (g / 512)
    → words_of places (set pool (index_of places g) v) len ≡ set (words_of places pool len) g v
word_written places pool len g v pages h there =
    let at : ℕ = index_of places g in
    let inside : at < length pool = place_inside places pool len g pages h there in
    words_are places (set pool at v) len (set (words_of places pool len) g v)
    (length-set {A = ℕ} (words_of places pool len) g v ∙ length-words_of places pool len)
    (λ k below. elim (cases_eq k g) [
      | inl e ↦
          rw e (get_or-set_same (words_of places pool len) g v 0 (omega (arith, length-words_of places pool len))
          ∙ sym (word_there places (set pool at v) g there ∙ get_or-set_same pool at v 0 inside))
      | inr ne ↦ get_or-set_other (words_of places pool len) g k v 0 ne ∙ word_of places pool len k below
          ∙ (elim (cases_lt 0 (slice_index places (k / 512))) [
            | inl some ↦
                let index : ℕ = index_of places k in
                let differs : index ≢ at = λ e.
                let same : k / 512 ≡ g / 512 = pages.apart (k / 512) (g / 512) some there (omega arith) (omega arith) in
                ne (omega (arith, same, e, ap (slice_index places) same)) in
                word_there places pool k some ∙ sym (get_or-set_other pool at index v 0 differs)
                ∙ sym (word_there places (set pool at v) k some)
            | inr none ↦ word_none places pool k (omega arith) ∙ sym (word_none places (set pool at v) k (omega arith))
          ])
    ])

-- where the word of a group is, if its page is taken
pub record IsAt (ws places pool : List ℕ) (n g at : ℕ) : Type 0 where
  pub inside : at < length pool
  pub read : slice_index pool at ≡ slice_index ws g
  pub written : (v : ℕ) → words_of places (set pool at v) n ≡ set ws g v

pub word_at : (ws places pool : List ℕ) (n g at : ℕ) → ArePages places pool n → words_of places pool n ≡ ws → g < length ws
    → 0 < slice_index places (g / 512) → at ≡ index_of places g → IsAt ws places pool n g at
word_at ws places pool n g at pages view h there e =
    let known = group_known ws places pool n g view h in
    record {
      inside = omega (arith, e, place_inside places pool n g pages known there);
      read = ap (slice_index pool) e ∙ sym (word_read ws places pool n g view known ∙ word_there places pool g there);
      written = λ v. ap (λ (i : ℕ). words_of places (set pool i v) n) e ∙ word_written places pool n g v pages known there
          ∙ ap (λ (l : List ℕ). set l g v) view;
    }

pub page_known : (ws places pool : List ℕ) (n g : ℕ) → ArePages places pool n → words_of places pool n ≡ ws → g < length ws
    → g / 512 < length places
page_known ws places pool n g pages view h = omega (arith, group_known ws places pool n g view h, pages.all)

-- the page of a word that isn't 0 is taken
pub taken_where_some : (ws places pool : List ℕ) (n g : ℕ) → words_of places pool n ≡ ws → g < length ws → 0 < slice_index ws g
    → 0 < slice_index places (g / 512)
taken_where_some ws places pool n g view h some =
    let known = group_known ws places pool n g view h in
    elim (cases_lt 0 (slice_index places (g / 512))) [
      | inl there ↦ there
      | inr none ↦ absurd (omega (arith, some, word_read ws places pool n g view known, word_none places pool g (omega arith)))
    ]

-- a word that is 0 and stays so
pub none_kept : (ws places pool : List ℕ) (n g bits : ℕ) → words_of places pool n ≡ ws → g < n → slice_index places (g / 512) ≡ 0
    → words_of places pool n ≡ set ws g (bit_and (slice_index ws g) bits)
none_kept ws places pool n g bits view h none =
    let zero_there : slice_index ws g ≡ 0 = word_read ws places pool n g view h ∙ word_none places pool g none in
    let stays : bit_and (slice_index ws g) bits ≡ 0 = ap (λ (w : ℕ). bit_and w bits) zero_there ∙ and_zero_l bits in
    let long : g < length ws = omega (arith, ap length view, length-words_of places pool n) in
    words_are places pool n (set ws g (bit_and (slice_index ws g) bits))
    (length-set {A = ℕ} ws g (bit_and (slice_index ws g) bits) ∙ sym (ap length view) ∙ length-words_of places pool n)
    (λ k below. elim (cases_eq k g) [
      | inl e ↦ rw e (get_or-set_same ws g (bit_and (slice_index ws g) bits) 0 long ∙ stays ∙ sym (word_none places pool g none))
      | inr ne ↦ get_or-set_other ws g k (bit_and (slice_index ws g) bits) 0 ne ∙ word_read ws places pool n k view below
    ])

-- ---- words of one page are filled
outside : (from to a : ℕ) → (a < from) ⊎ (to ≤ a) → is_between from to a ≡ false
outside from to a (inl h) = between_no_below from to a h
outside from to a (inr h) = between_no_above from to a h

other_page : (from to g : ℕ) → to ≤ 512 * (from / 512) + 512 → g / 512 ≢ from / 512 → is_between from to g ≡ false
other_page from to g page ne = elim (cases_lt g from) [
  | inl h ↦ between_no_below from to g h
  | inr h ↦ elim (cases_lt g to) [
    | inl k ↦ absurd (ne (omega arith))
    | inr k ↦ between_no_above from to g k
  ]
]

moved_along : (from to start index g : ℕ) → from ≤ to → index + from ≡ start + g
    → is_between start (start + (to - from)) index ≡ is_between from to g
moved_along from to start index g h e = elim (cases_lt g from) [
  | inl k ↦ between_no_below start (start + (to - from)) index (omega arith) ∙ sym (between_no_below from to g k)
  | inr k ↦ elim (cases_lt g to) [
    | inl l ↦ between_yes start (start + (to - from)) index (omega arith) (omega arith) ∙ sym (between_yes from to g k l)
    | inr l ↦ between_no_above start (start + (to - from)) index (omega arith) ∙ sym (between_no_above from to g l)
  ]
]

module _ (places pool pool' : List ℕ) (len from to value start : ℕ) (pages : ArePages places pool len) (some : from < to) (known : to ≤ len)
    (page : to ≤ 512 * (from / 512) + 512) (there : 0 < slice_index places (from / 512))
    (begin : start ≡ index_of places from)
    (each : (i : ℕ) → slice_index pool' i ≡ (if is_between start (start + (to - from)) i then value else slice_index pool i)) where
  elsewhere : (g : ℕ) → g < len → g / 512 ≢ from / 512 → 0 < slice_index places (g / 512)
      → is_between start (start + (to - from)) (index_of places g) ≡ false
  elsewhere g h ne taken =
      let index : ℕ = index_of places g in
      elim (cases_lt index start) [
        | inl k ↦ between_no_below start (start + (to - from)) index k
        | inr k ↦ elim (cases_lt index (start + (to - from))) [
          | inl l ↦ absurd (ne (pages.apart (g / 512) (from / 512) taken there (omega arith) (omega arith)))
          | inr l ↦ between_no_above start (start + (to - from)) index l
        ]
      ]

  pub page_filled : (g : ℕ) → g < len → paged_word places pool' g ≡ (if is_between from to g then value else paged_word places pool g)
  page_filled g h = elim (cases_eq (g / 512) (from / 512)) [
    | inl e ↦
        let taken : 0 < slice_index places (g / 512) = rw e there in
        let index : ℕ = index_of places g in
        let along : index + from ≡ start + g = omega (arith, e, ap (slice_index places) e) in
        word_there places pool' g taken ∙ each index
        ∙ ap (λ (b : Bool). if b then value else slice_index pool index) (moved_along from to start index g (omega arith) along)
        ∙ ap (λ (w : ℕ). if is_between from to g then value else w) (sym (word_there places pool g taken))
    | inr ne ↦
        let no : is_between from to g ≡ false = other_page from to g page ne in
        let same : paged_word places pool' g ≡ paged_word places pool g = elim (cases_lt 0 (slice_index places (g / 512))) [
          | inl taken ↦ word_there places pool' g taken ∙ each _
              ∙ ap (λ (b : Bool). if b then value else slice_index pool (index_of places g))
              (elsewhere g h ne taken)
              ∙ sym (word_there places pool g taken)
          | inr none ↦ word_none places pool' g (omega arith) ∙ sym (word_none places pool g (omega arith))
        ] in
        same ∙ sym (ap (λ (b : Bool). if b then value else paged_word places pool g) no)
  ]

-- zeros in a page that isn't taken
pub nothing_filled : (places pool : List ℕ) (from to value g : ℕ) → to ≤ 512 * (from / 512) + 512 → slice_index places (from / 512) ≡ 0
    → value ≡ 0 → paged_word places pool g ≡ (if is_between from to g then value else paged_word places pool g)
nothing_filled places pool from to value g page none e = elim (cases_eq (g / 512) (from / 512)) [
  | inl same ↦ elim (is_between from to g) as (λ b. paged_word places pool g ≡ (if b then value else paged_word places pool g))
      [ true ↦ word_none places pool g (rw same none) ∙ sym e | false ↦ refl ]
  | inr ne ↦ sym (ap (λ (b : Bool). if b then value else paged_word places pool g) (other_page from to g page ne))
]

-- ---- word by word
abbrev pub AreFilled : ℕ → ℕ → List ℕ → List ℕ → ℕ → Type 0
AreFilled from value old now upto = (i : ℕ) → slice_index now i ≡ (if is_between from upto i then value else slice_index old i)

pub none_filled : (from value : ℕ) (old : List ℕ) → AreFilled from value old old from
none_filled from value old i =
    sym (ap (λ (b : Bool). if b then value else slice_index old i) (elim (cases_lt i from) [
      | inl h ↦ between_no_below from from i h
      | inr h ↦ between_no_above from from i h
    ]))

pub one_filled : (from value : ℕ) (old now : List ℕ) (index : ℕ) → from ≤ index → index < length now → AreFilled from value old now index
    → AreFilled from value old (set now index value) (index + 1)
one_filled from value old now index low inside filled i = elim (cases_eq i index) [
  | inl q ↦ ap (λ (k : ℕ). slice_index (set now index value) k) q ∙ get_or-set_same now index value 0 inside
      ∙ sym (ap (λ (b : Bool). if b then value else slice_index old i)
      (between_yes from (index + 1) i (omega (arith, q, low)) (omega (arith, q))))
  | inr n ↦ get_or-set_other now index i value 0 n ∙ filled i
      ∙ ap (λ (b : Bool). if b then value else slice_index old i)
      (between_same from index (index + 1) i (λ h. omega (arith, h)) (λ h. omega (arith, h, n)))
]

-- up to the end, or none where that is before the first
pub all_filled : (from to value : ℕ) (old now : List ℕ) (index : ℕ) → from ≤ to → to ≤ index → index ≤ max from to
    → AreFilled from value old now index → AreFilled from value old now to
all_filled from to value old now index order past most filled i =
    filled i ∙ ap (λ (b : Bool). if b then value else slice_index old i)
    (between_same from index to i (λ h. omega (arith, h, order, most)) (λ h. omega (arith, h, past)))

-- ---- page by page
abbrev pub IsFilledUpTo : ℕ → ℕ → ℕ → List ℕ → List ℕ → List ℕ → List ℕ → ℕ → Type 0
IsFilledUpTo len first value places pool places' pool' upto =
    (g : ℕ) → g < len → paged_word places' pool' g ≡ (if is_between first upto g then value else paged_word places pool g)

pub filled_more : (first low high value g x y z : ℕ) → first ≤ low → y ≡ (if is_between first low g then value else x)
    → low ≤ high → z ≡ (if is_between low high g then value else y)
    → z ≡ (if is_between first high g then value else x)
filled_more first low high value g x y z h e k f = elim (cases_lt g first) [
  | inl b ↦ f ∙ ap (λ (v : Bool). if v then value else y) (between_no_below low high g (omega arith)) ∙ e
      ∙ ap (λ (v : Bool). if v then value else x) (between_no_below first low g b ∙ sym (between_no_below first high g b))
  | inr b ↦ elim (cases_lt g low) [
    | inl c ↦ f ∙ ap (λ (v : Bool). if v then value else y) (between_no_below low high g c) ∙ e
        ∙ ap (λ (v : Bool). if v then value else x) (between_yes first low g b c ∙ sym (between_yes first high g b (omega arith)))
    | inr c ↦ elim (cases_lt g high) [
      | inl d ↦ f ∙ ap (λ (v : Bool). if v then value else y) (between_yes low high g c d)
          ∙ sym (ap (λ (v : Bool). if v then value else x) (between_yes first high g b d))
      | inr d ↦ f ∙ ap (λ (v : Bool). if v then value else y) (between_no_above low high g d) ∙ e
          ∙ ap (λ (v : Bool). if v then value else x) (between_no_above first low g c ∙ sym (between_no_above first high g d))
    ]
  ]
]

-- ---- a slice of the pool
pub slice_read : (pool : List ℕ) (begin end i : ℕ) → i < end - begin
    → slice_index (take (end - begin) (drop begin pool)) i ≡ slice_index pool (begin + i)
slice_read pool begin end i h = get_or-take (end - begin) (drop begin pool) i 0 h ∙ get_or-drop begin pool i 0

pub all_written : (n : ℕ) (new old : List ℕ) → n ≡ length old → length new ≡ length old → take n (new ++ drop (length new) old) ≡ new
all_written n new old e f =
    let same : n ≡ length new = omega arith in
    rw same (take-append_seam new (drop (length new) old))

-- ---- a search, page by page
pub page_passed : (places pool : List ℕ) (from past p : ℕ) → slice_index places p ≡ 0
    → ((g : ℕ) → from ≤ g → g < 512 * p → g < past → paged_word places pool g ≡ 0)
    → (g : ℕ) → from ≤ g → g < 512 * (p + 1) → g < past → paged_word places pool g ≡ 0
page_passed places pool from past p none before g h k l = elim (cases_lt g (512 * p)) [
  | inl b ↦ before g h b l
  | inr b ↦ (let here : g / 512 ≡ p = omega arith in word_none places pool g (rw here none))
]

-- what a slice of the pool, which has the words of a page from `low` on, says of them
module _ (places pool : List ℕ) (len p low begin : ℕ) (part : List ℕ) (size : ℕ)
    (pages : ArePages places pool len) (above : 512 * p ≤ low) (ends : low + size ≤ 512 * p + 512)
    (there : 0 < slice_index places p) (start : begin ≡ slice_index places p + low - 2 ^ 26)
    (read : (i : ℕ) → i < size → slice_index part i ≡ slice_index pool (begin + i)) where
  pub part_word : (i : ℕ) → i < size → paged_word places pool (low + i) ≡ slice_index part i
  part_word i h =
      let here : (low + i) / 512 ≡ p = omega arith in
      let place : slice_index places ((low + i) / 512) ≡ slice_index places p = ap (slice_index places) here in
      let index : index_of places (low + i) ≡ begin + i =
      omega (arith, place, start, (pages.inside p there).0) in
      word_there places pool (low + i) (omega (arith, place)) ∙ ap (slice_index pool) index ∙ sym (read i h)

  pub part_searched : (from past count : ℕ) → low ≡ max from (512 * p) → count ≤ size
      → ((g : ℕ) → from ≤ g → g < 512 * p → g < past → paged_word places pool g ≡ 0)
      → ((i : ℕ) → i < count → slice_index part i ≡ 0) → (g : ℕ) → from ≤ g → g < low + count → g < past → paged_word places pool g ≡ 0
  part_searched from past count e k before none g h l b = elim (cases_lt g (512 * p)) [
    | inl c ↦ before g h c b
    | inr c ↦
        let far : low ≤ g = omega arith in
        let same : low + (g - low) ≡ g = omega arith in
        ap (paged_word places pool) (sym same) ∙ part_word (g - low) (omega arith) ∙ none (g - low) (omega arith)
  ]

-- ---- no page is taken
pub pages_none : (places pool : List ℕ) (n k : ℕ) → n ≤ 2 ^ 26 → n ≤ 512 * k → places ≡ replicate k 0 → length pool ≡ 0
    → ArePages places pool n
pages_none places pool n k small all e none =
    let zero_there : (p : ℕ) → slice_index places p ≡ 0 = λ p. ap (λ (l : List ℕ). slice_index l p) e ∙ all_zeros k p in
    record {
      small = small;
      all = omega (arith, all, ap length e, length-replicate {A = ℕ} k 0);
      inside = λ p h. absurd (omega (arith, h, zero_there p));
      apart = λ p q h k a b. absurd (omega (arith, h, zero_there p));
      no_more = none ∙ sym (ap (λ (l : List ℕ). taken_words l n) e ∙ taken_none k n);
    }

pub words_filled : (ws places pool places' pool' : List ℕ) (n first past value i : ℕ) → words_of places pool n ≡ ws → past ≤ length ws
    → ((g : ℕ) → g < n → paged_word places' pool' g ≡ (if is_between first past g then value else paged_word places pool g))
    → slice_index (words_of places' pool' n) i ≡ (if is_between first past i then value else slice_index ws i)
words_filled ws places pool places' pool' n first past value i view known each = elim (cases_lt i n) [
  | inl h ↦ word_of places' pool' n i h ∙ each i h
      ∙ ap (λ (w : ℕ). if is_between first past i then value else w) (sym (word_read ws places pool n i view h))
  | inr h ↦
      let long : length ws ≡ n = sym (ap length view) ∙ length-words_of places pool n in
      get_or_past (words_of places' pool' n) i 0 (omega (arith, length-words_of places' pool' n))
      ∙ sym (ap (λ (b : Bool). if b then value else slice_index ws i) (between_no_above first past i (omega arith))
      ∙ get_or_past ws i 0 (omega arith))
]
