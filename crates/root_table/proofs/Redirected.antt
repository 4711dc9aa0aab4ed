-- One address gives way to another, place by place.
use Rattle.std.proofs.Common.{◌≡◌, ◌≢◌, ◌⊎◌, ◌+◌, ◌∙◌, ◌<◌, ◌≤◌, ℕ, suc, List, Option, Some, None, length, get_or, set}
use Rattle.std.proofs.Common.{refl, sym, ap, arith, inl, inr, map, subst}
use Rattle.std.proofs.lemmas.Bool.{cases_lt, cases_eq, eq-eqb, ne_eqb}
use Rattle.std.proofs.lemmas.List.{ext_get_or, get_or-map, length-map, length-set, get_or-set_same, get_or-set_other}
use Rattle.heap_model.specs.Graph.{RootCounts}
use Rattle.heap_model.specs.Redirection.{redirected}
use Rattle.root_table.specs.Roots.{row_start, HoldNowhere, IsNextHolder, AreRedirectedBetween}
use Rattle.root_table.specs.Bounds.{AreBounded}
use Rattle.root_table.proofs.Rows.{all_rows, bound_read, row_end}

redirected_here : (from to : ℕ) (w : Option ℕ) → w ≡ Some from → redirected from to w ≡ Some to
redirected_here from to w e = ap (redirected from to) e ∙ rw (eq-eqb from from refl) refl

redirected_other : (from to : ℕ) (w : Option ℕ) → w ≢ Some from → redirected from to w ≡ w
redirected_other from to None n = refl
redirected_other from to (Some a) n = rw (ne_eqb a from (λ e. n (ap Some e))) refl

pub none_redirected : (from to first : ℕ) (ws : List (Option ℕ)) → AreRedirectedBetween from to first first ws ws
none_redirected from to first ws = record {
  count = refl;
  done = λ j low high. absurd (omega (arith, low, high));
  left = λ j h. refl;
}

-- a place that wasn't reached yet, and doesn't hold the address
passed : (from to first place j : ℕ) (old now : List (Option ℕ)) → AreRedirectedBetween from to first place old now → place ≤ j
    → get_or now j None ≢ Some from → get_or now j None ≡ redirected from to (get_or old j None)
passed from to first place j old now r low isnt =
    let same = r.left j (inr low) in
    same ∙ sym (redirected_other from to (get_or old j None) (λ e. isnt (same ∙ e)))

-- up to the next place that holds the address, and over it
pub one_redirected : (from to first place next end : ℕ) (old now : List (Option ℕ)) → end ≡ next + 1 → first ≤ place
    → AreRedirectedBetween from to first place old now → IsNextHolder now from place next → next < length now
    → AreRedirectedBetween from to first end old (set now next (Some to))
one_redirected from to first place next end old now e order r found known = record {
  count = length-set now next (Some to) ∙ r.count;
  done = λ j low high. elim (cases_eq j next) [
    | inl q ↦ ap (λ (i : ℕ). get_or (set now next (Some to)) i None) q ∙ get_or-set_same now next (Some to) None known
        ∙ sym (redirected_here from to (get_or old j None)
        (ap (λ (i : ℕ). get_or old i None) q ∙ sym (r.left next (inr found.from_on)) ∙ found.holds))
    | inr n ↦ get_or-set_other now next j (Some to) None n ∙ elim (cases_lt j place) [
      | inl b ↦ r.done j low b
      | inr b ↦ passed from to first place j old now r b (found.not_before j b (omega (arith, n, high, e)))
    ]
  ];
  left = λ j h.
      let f = found.from_on in
      let apart : j ≢ next = λ q. absurd (elim h [ inl l ↦ omega (arith, l, q, f, order) | inr l ↦ omega (arith, l, q, e) ]) in
      let outside : (j < first) ⊎ (place ≤ j) = elim h [ inl l ↦ inl l | inr l ↦ inr (omega (arith, l, e, f)) ] in
      get_or-set_other now next j (Some to) None apart ∙ r.left j outside;
}

-- and up to the end
pub rest_redirected : (from to first place past : ℕ) (old now : List (Option ℕ)) → first ≤ place → place ≤ past
    → AreRedirectedBetween from to first place old now → HoldNowhere now from place past
    → AreRedirectedBetween from to first past old now
rest_redirected from to first place past old now order most r nowhere = record {
  count = r.count;
  done = λ j low high. elim (cases_lt j place) [
    | inl b ↦ r.done j low b
    | inr b ↦ passed from to first place j old now r b (nowhere j b high)
  ];
  left = λ j h. r.left j (elim h [ inl l ↦ inl l | inr l ↦ inr (omega (arith, l, most)) ]);
}

-- a row more: its places up to its bound are redirected, and the others are nil
pub row_redirected : (p : RootCounts) (used : List ℕ) (from to row x : ℕ) (old now now' : List (Option ℕ)) → AreBounded p now used
    → row ≤ p.mutators → x ≡ get_or used row x → AreRedirectedBetween from to 0 (row_start p row) old now
    → AreRedirectedBetween from to (row_start p row) (row_start p row + x) now now'
    → AreRedirectedBetween from to 0 (row_start p (row + 1)) old now'
row_redirected p used from to row x old now now' b known read r more =
    let bound = bound_read used row x (omega (arith, known, b.rows)) read in
    let most = b.within row known in
    let end = row_end p row in
    let next : row_start p (row + 1) ≡ row_start p (suc row) = ap (row_start p) {x = row + 1} {y = suc row} (omega arith) in
    record {
      count = more.count ∙ r.count;
      done = λ j low high. elim (cases_lt j (row_start p row)) [
        | inl before ↦ more.left j (inl before) ∙ r.done j low before
        | inr after ↦ elim (cases_lt j (row_start p row + x)) [
          | inl inside ↦ more.done j after inside ∙ ap (redirected from to) (r.left j (inr after))
          | inr above ↦
              let nil : get_or now j None ≡ None = b.nil row known j (omega (arith, above, bound)) (omega (arith, high, next, end)) in
              more.left j (inr above) ∙ nil ∙ sym (ap (redirected from to) (sym (r.left j (inr after)) ∙ nil))
        ]
      ];
      left = λ j h.
          let past : row_start p (row + 1) ≤ j = elim h [ inl l ↦ absurd (omega (arith, l)) | inr l ↦ l ] in
          more.left j (inr (omega (arith, past, next, end, most, bound))) ∙ r.left j (inr (omega (arith, past, next, end)));
    }

-- a row of which nothing is in use
pub unused_redirected : (p : RootCounts) (used : List ℕ) (from to row x : ℕ) (old now : List (Option ℕ)) → AreBounded p now used
    → row ≤ p.mutators → x ≡ get_or used row x → x ≡ 0 → AreRedirectedBetween from to 0 (row_start p row) old now
    → AreRedirectedBetween from to 0 (row_start p (row + 1)) old now
unused_redirected p used from to row x old now b known read none r =
    row_redirected p used from to row x old now now b known read r record {
      count = refl;
      done = λ j low high. absurd (omega (arith, low, high, none));
      left = λ j h. refl;
    }

pub all_redirected : (p : RootCounts) (from to end : ℕ) (old now : List (Option ℕ))
    → AreRedirectedBetween from to 0 (row_start p end) old now
    → end ≡ p.mutators + 1 → length old ≤ row_start p (suc p.mutators) → now ≡ map (redirected from to) old
all_redirected p from to end old now r e most =
    let at : row_start p end ≡ row_start p (suc p.mutators) = ap (row_start p) {x = end} {y = suc p.mutators} (omega (arith, e)) in
    ext_get_or None now (map (redirected from to) old) (r.count ∙ sym (length-map old (redirected from to)))
    (λ j h. r.done j (omega arith) (let c = r.count in omega (arith, h, c, most, at))
    ∙ sym (get_or-map (redirected from to) old j None None (let c = r.count in omega (arith, h, c))))
