use Rattle.std.proofs.Common.{◌≡◌, ◌+◌, ◌-◌, ◌≤◌, ◌<◌, ◌∷◌, ◌++◌, ◌∙◌}
use Rattle.std.proofs.Common.{ℕ, List, [], length, map, take, drop, get_or, set, refl, sym, ap, arith, Bor}
use Rattle.std.proofs.lemmas.List.{length-take-le, length-map, length-set}
use Rattle.script_text.proofs.Parts.Splitting.{kept_more, goes_on, new_word, last_word, no_more, first_piece, here_ends, IsSplit}
use Rattle.script_text.proofs.read.words.split_front.Goals as goal
use Rattle.script_text.proofs.read.words.split_front.Goals.{then-byte-eq32+then-count-lt12-2, else-byte-eq32}
use Rattle.script_text.proofs.read.words.split_front.Goals.{else-byte-eq32-via-then-byte-eq32+else-count-lt12-2}
use Rattle.script_text.proofs.read.words.split_front.Goals.{else-byte-eq32-via-else-byte-eq32}

-- as many words are kept as are counted
kept : {A : Type 0} (f : A → List ℕ) (xs : List A) (n : ℕ) → length xs ≡ 12 → n ≤ 12 → length (map f (take n xs)) ≡ n
kept f xs n room few = length-map (take n xs) f ∙ length-take-le n xs (omega arith)

pub bytes-preserved-then-byte-gt32 : goal.bytes-preserved-then-byte-gt32
bytes-preserved-then-byte-gt32 c = record {
  room = c.bytes.invariant.room;
  count = c.bytes.invariant.count;
  begun = omega arith;
  within = omega arith;
  split = goes_on c.args.text.now _ c.bytes.start c.bytes.at c.bytes.invariant.split
      (omega (arith, c.requires.ended, c.bytes.invariant.split.within)) (λ e. omega arith) (λ few e. omega arith);
}

pub returns-then-count-lt12-clause-line : goal.returns-then-count-lt12-clause-line
returns-then-count-lt12-clause-line c = first_piece c.args.text.now c.bytes.at c.bytes.invariant.split.within
    (omega (arith, c.requires.ended, c.bytes.invariant.split.within)) c.if-byte-eq10.true

pub returns-else-count-lt12-clause-line : goal.returns-else-count-lt12-clause-line
returns-else-count-lt12-clause-line c = first_piece c.args.text.now c.bytes.at c.bytes.invariant.split.within
    (omega (arith, c.requires.ended, c.bytes.invariant.split.within)) c.if-byte-eq10.true

pub returns-then-count-lt12-clause-ends : goal.returns-then-count-lt12-clause-ends
returns-then-count-lt12-clause-ends c = sym (here_ends c.args.text.now c.bytes.at c.bytes.invariant.split.within
    (omega (arith, c.requires.ended, c.bytes.invariant.split.within)) c.if-byte-eq10.true)

pub returns-else-count-lt12-clause-ends : goal.returns-else-count-lt12-clause-ends
returns-else-count-lt12-clause-ends c = sym (here_ends c.args.text.now c.bytes.at c.bytes.invariant.split.within
    (omega (arith, c.requires.ended, c.bytes.invariant.split.within)) c.if-byte-eq10.true)

abbrev texts : List (Bor (List ℕ)) → List (List ℕ)
texts ws = map (λ w. w.now) ws

stored : (old new : List (Bor (List ℕ))) (y : Bor (List ℕ)) (i count : ℕ) (word : List ℕ) → new ≡ set old i y → count ≡ i + 1 → y.now ≡ word
    → length old ≡ 12 → i < 12 → texts (take count new) ≡ texts (take i old) ++ word ∷ []
stored old new y i count word is more reads room few =
    rw (is, more) (kept_more (λ w. w.now) old i y (omega arith) ∙ ap (λ (t : List ℕ). texts (take i old) ++ t ∷ []) reads)

same : (old new : List (Bor (List ℕ))) (i count : ℕ) → new ≡ old → count ≡ i → texts (take count new) ≡ texts (take i old)
same old new i count is counted = rw (is, counted) refl

renamed : (text : List ℕ) (ws vs : List (List ℕ)) (start s at : ℕ) → vs ≡ ws → s ≡ start → IsSplit text ws start at → IsSplit text vs s at
renamed text ws vs start s at e f split = rw (e, f) split

still_room : (old new : List (Bor (List ℕ))) (i : ℕ) (y : Bor (List ℕ)) → new ≡ set old i y → length old ≡ 12 → length new ≡ 12
still_room old new i y is room = ap length is ∙ length-set old i y ∙ room

pub bytes-preserved : goal.bytes-preserved
bytes-preserved c =
    elim c.if-byte-eq32.branch [
      | then-byte-eq32+then-count-lt12-2 w ↦ (
          let word = take (c.bytes.at - c.bytes.start) (drop c.bytes.start c.args.text.now) in
          let few : length (texts (take c.bytes.count c.bytes.words)) < 12 =
          omega (
            arith,
            w.if-count-lt12-2.true,
            kept (λ w. w.now) c.bytes.words c.bytes.count c.bytes.invariant.room c.bytes.invariant.count,
          ) in
          record {
            room = still_room c.bytes.words c.if-byte-eq32.words c.bytes.count _ w.words-is c.bytes.invariant.room;
            count = omega (arith, w.count-is, w.if-count-lt12-2.true);
            begun = omega (arith, w.start-is);
            within = omega arith;
            split = renamed c.args.text.now (texts (take c.bytes.count c.bytes.words) ++ word ∷ []) _ (c.bytes.at + 1) _ (c.bytes.at + 1)
                (stored c.bytes.words c.if-byte-eq32.words _ c.bytes.count c.if-byte-eq32.count word w.words-is w.count-is refl
                c.bytes.invariant.room w.if-count-lt12-2.true) w.start-is
                (new_word c.args.text.now (texts (take c.bytes.count c.bytes.words)) c.bytes.start c.bytes.at c.bytes.invariant.split
                c.bytes.invariant.begun (omega (arith, c.requires.ended, c.bytes.invariant.split.within)) w.if-byte-eq32.true few);
          })
      | else-byte-eq32 w ↦ (
          let full : length (texts (take c.bytes.count c.bytes.words)) < 12 → get_or c.args.text.now c.bytes.at 0 ≡ 32 → ⊥ = λ few space.
          let n = kept (λ w. w.now) c.bytes.words c.bytes.count c.bytes.invariant.room c.bytes.invariant.count in
          elim w.else-byte-eq32.branch [
            | else-byte-eq32-via-then-byte-eq32+else-count-lt12-2 v ↦ (let past = v.if-count-lt12-2.false in omega arith)
            | else-byte-eq32-via-else-byte-eq32 v ↦ v.if-byte-eq32.false space
          ] in
          record {
            room = ap length w.words-is ∙ c.bytes.invariant.room;
            count = omega (arith, w.count-is);
            begun = omega (arith, w.start-is);
            within = omega arith;
            split = renamed c.args.text.now (texts (take c.bytes.count c.bytes.words)) _ c.bytes.start _ (c.bytes.at + 1)
                (same c.bytes.words c.if-byte-eq32.words c.bytes.count c.if-byte-eq32.count w.words-is w.count-is) w.start-is
                (goes_on c.args.text.now (texts (take c.bytes.count c.bytes.words)) c.bytes.start c.bytes.at c.bytes.invariant.split
                (omega (arith, c.requires.ended, c.bytes.invariant.split.within)) c.if-byte-eq10.false full);
          })
    ]

pub returns-then-count-lt12-clause-words : goal.returns-then-count-lt12-clause-words
returns-then-count-lt12-clause-words c =
    let word = take (c.bytes.at - c.bytes.start) (drop c.bytes.start c.args.text.now) in
    let n = kept (λ w. w.now) c.bytes.words c.bytes.count c.bytes.invariant.room c.bytes.invariant.count in
    stored c.bytes.words _ _ c.bytes.count (c.bytes.count + 1) word refl refl refl c.bytes.invariant.room c.if-count-lt12.true
    ∙ last_word c.args.text.now (texts (take c.bytes.count c.bytes.words)) c.bytes.start c.bytes.at
    c.bytes.invariant.split c.bytes.invariant.begun (omega (arith, c.requires.ended, c.bytes.invariant.split.within))
    c.if-byte-eq10.true (omega (arith, c.if-count-lt12.true))

pub returns-else-count-lt12-clause-words : goal.returns-else-count-lt12-clause-words
returns-else-count-lt12-clause-words c =
    let n = kept (λ w. w.now) c.bytes.words c.bytes.count c.bytes.invariant.room c.bytes.invariant.count in
    no_more c.args.text.now (texts (take c.bytes.count c.bytes.words)) c.bytes.start c.bytes.at c.bytes.invariant.split
    (omega (arith, c.requires.ended, c.bytes.invariant.split.within)) c.if-byte-eq10.true (omega (arith, c.if-count-lt12.false))
