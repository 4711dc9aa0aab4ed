-- What the fields of a card table have of the facts on its cards.
use Rattle.std.proofs.Common.{◌≡◌, ◌+◌, ◌<◌, ◌≤◌, ◌∷◌, ◌++◌, ◌∙◌}
use Rattle.std.proofs.Common.{ℕ, true, false, List, [], length, get_or, set, All, sym, ap, subst, arith, length-append}
use Rattle.std.specs.VecDeque.{deque_capacity}
use Rattle.std.proofs.lemmas.List.{get_or_default}
use Rattle.std.proofs.lemmas.List.Sums.{get_or-le-sum_by}
use Rattle.cards.specs.declared.table.CardTable.TheInside.{Inside}
use Rattle.cards.specs.Cards.{Cards, is_dirty, log_of, dirtied, sent, flushed}
use Rattle.cards.specs.Inside.{cards_of, listed_count, IsCounted, IsCardTable}
use Rattle.cards.proofs.Listed.{room_for_clean, room_for_listed, no_log_is_full}
use Rattle.cards.proofs.Flushed.{flushed_up_to, length-flushed_up_to}
use Rattle.cards.proofs.Dirtied.{dirtied_full, dirtied_short, IsCounted-dirtied, IsShort-dirtied, length-dirtied}

-- a card is the number that entered its log
pub is_pushed : (old now : List ℕ) {c n : ℕ} → n ≡ c → now ≡ old ++ n ∷ [] → now ≡ old ++ c ∷ []
is_pushed old now is e = e ∙ ap (λ k. old ++ k ∷ []) is

-- where a card is clean the queue has room for one more than are listed
pub clean_room : (s : Inside) (v : Cards) (c : ℕ) → cards_of s ≡ v → IsCardTable s → c < length v.dirty → is_dirty v c ≡ false
    → listed_count (cards_of s) < deque_capacity s.queue
clean_room s v c view sound h clean =
    let all : IsCounted v = subst IsCounted view sound.cards in
    omega (arith, room_for_clean v c all h clean, sound.room, ap (λ (t : Cards). length t.dirty) view, ap listed_count view)

log_count : (t : Cards) (m : ℕ) (old : List ℕ) → m < length t.logs → old ≡ get_or t.logs m old
    → length t.queue + length old ≤ listed_count t
log_count t m old known e =
    let log : log_of t m ≡ old = get_or_default t.logs m [] old known ∙ sym e in
    omega (arith, get_or-le-sum_by (λ (l : List ℕ). length l) t.logs m [] known, ap length log)

-- room for a log, and for a clean card after it
pub log_room : (s : Inside) (m : ℕ) (old : List ℕ) → IsCounted (cards_of s) → length s.dirty ≤ deque_capacity s.queue
    → m < length s.logs.items → old ≡ get_or s.logs.items m old → length s.queue.items + length old ≤ deque_capacity s.queue
log_room s m old all room known e = omega (arith, log_count (cards_of s) m old known e, room_for_listed (cards_of s) all)

pub longer_log_room : (s : Inside) (v : Cards) (m c : ℕ) (old now : List ℕ) → cards_of s ≡ v → IsCardTable s → m < length v.logs
    → c < length v.dirty → is_dirty v c ≡ false → old ≡ get_or s.logs.items m old → now ≡ old ++ c ∷ []
    → length s.queue.items + length now ≤ deque_capacity s.queue
longer_log_room s v m c old now view sound known h clean e is =
    omega (
      arith,
      clean_room s v c view sound h clean,
      log_count (cards_of s) m old (omega (arith, ap (λ (t : Cards). length t.logs) view)) e,
      ap length is,
      length-append old (c ∷ []),
    )

pub now_is : (s : Inside) (v : Cards) (m c : ℕ) (old now : List ℕ) → cards_of s ≡ v → m < length v.logs → old ≡ get_or s.logs.items m old
    → now ≡ old ++ c ∷ [] → now ≡ log_of v m ++ c ∷ []
now_is s v m c old now view known e is =
    let log : log_of v m ≡ old = get_or_default v.logs m [] old known ∙ ap (λ (t : Cards). get_or t.logs m old) (sym view) ∙ sym e in
    is ∙ ap (λ l. l ++ c ∷ []) (sym log)

-- the fields where a clean card entered a log, which went to the queue or not
pub sent_view : (s t : Inside) (v : Cards) (m c : ℕ) (now : List ℕ) → cards_of s ≡ v → is_dirty v c ≡ false → m < length v.logs
    → now ≡ log_of v m ++ c ∷ [] → length now ≡ 4
    → t.dirty ≡ set s.dirty c true → t.logs.items ≡ set s.logs.items m [] → t.queue.items ≡ s.queue.items ++ now
    → cards_of t ≡ dirtied v m c
sent_view s t v m c now view clean known is four flags logs queue =
    rw (flags, logs, queue, dirtied_full v m c now clean known is four)
    (ap (λ (u : Cards). record { dirty = set u.dirty c true; logs = set u.logs m []; queue = u.queue ++ now }) view)

pub stays_view : (s t : Inside) (v : Cards) (m c : ℕ) (now : List ℕ) → cards_of s ≡ v → is_dirty v c ≡ false → m < length v.logs
    → now ≡ log_of v m ++ c ∷ [] → (length now ≡ 4 → ⊥)
    → t.dirty ≡ set s.dirty c true → t.logs.items ≡ set s.logs.items m now → t.queue.items ≡ s.queue.items
    → cards_of t ≡ dirtied v m c
stays_view s t v m c now view clean known is short flags logs queue =
    rw (flags, logs, queue, dirtied_short v m c now clean known is short)
    (ap (λ (u : Cards). record { dirty = set u.dirty c true; logs = set u.logs m now; queue = u.queue }) view)

pub IsCardTable-dirtied : (s t : Inside) (v : Cards) (m c : ℕ) → cards_of s ≡ v → IsCardTable s → cards_of t ≡ dirtied v m c
    → m < length v.logs
    → c < length v.dirty → deque_capacity t.queue ≡ deque_capacity s.queue → IsCardTable t
IsCardTable-dirtied s t v m c view sound after known h queue =
    let all : IsCounted v = subst IsCounted view sound.cards in
    let short : All (λ log. length log < 4) v.logs = subst (λ (u : Cards). All (λ log. length log < 4) u.logs) view sound.short in
    let same : length t.dirty ≡ length s.dirty =
    ap (λ (u : Cards). length u.dirty) after ∙ length-dirtied v m c ∙ ap (λ (u : Cards). length u.dirty) (sym view) in
    record {
      cards = subst IsCounted (sym after) (IsCounted-dirtied v m c all known h);
      short = subst (λ (u : Cards). All (λ log. length log < 4) u.logs) (sym after) (IsShort-dirtied v m c short known);
      room = omega (arith, sound.room, same, queue);
      few = omega (arith, sound.few, same);
    }

-- ---- the fields as the logs go to the queue one after another
pub sent_fields : (t u : Inside) (i : ℕ) (old : List ℕ) → i < length t.logs.items → old ≡ get_or t.logs.items i old
    → u.dirty ≡ t.dirty → u.logs.items ≡ set t.logs.items i [] → u.queue.items ≡ t.queue.items ++ old
    → cards_of u ≡ sent (cards_of t) i
sent_fields t u i old known e flags logs queue =
    let log : old ≡ log_of (cards_of t) i = e ∙ sym (get_or_default t.logs.items i [] old known) in
    rw (flags, logs, queue) (ap (λ l. record { dirty = t.dirty; logs = set t.logs.items i []; queue = t.queue.items ++ l }) log)

pub logs_stay : (s t : Inside) (i : ℕ) → cards_of t ≡ flushed_up_to i (cards_of s) → i ≤ length s.logs.items
    → length t.logs.items ≡ length s.logs.items
logs_stay s t i view h = ap (λ (u : Cards). length u.logs) view ∙ length-flushed_up_to (cards_of s) i h

pub dirty_stays : (s t : Inside) (i : ℕ) → cards_of t ≡ flushed_up_to i (cards_of s) → length t.dirty ≡ length s.dirty
dirty_stays s t i view = ap (λ (u : Cards). length u.dirty) view

pub IsCardTable-flushed : (s t : Inside) → IsCardTable s → cards_of t ≡ flushed (cards_of s) → IsCounted (cards_of t)
    → deque_capacity t.queue ≡ deque_capacity s.queue → IsCardTable t
IsCardTable-flushed s t sound view all queue =
    let same : length t.dirty ≡ length s.dirty = ap (λ (u : Cards). length u.dirty) view in
    record {
      cards = all;
      short = subst (λ (u : Cards). All (λ log. length log < 4) u.logs) (sym view) (no_log_is_full (length s.logs.items));
      room = omega (arith, sound.room, same, queue);
      few = omega (arith, sound.few, same);
    }
