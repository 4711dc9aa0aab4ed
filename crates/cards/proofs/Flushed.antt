-- Logs that go to the queue one after another.
use Rattle.std.proofs.Common.{◌≡◌, ◌+◌, ◌<◌, ◌≤◌, ◌∷◌, ◌++◌, ◌∙◌, ℕ, List, [], length, get_or, set, take, drop, replicate, zero, suc, refl}
use Rattle.std.proofs.Common.{sym, ap, arith, add-one, append_assoc, length-append, append-nil, length-drop}
use Rattle.std.specs.List.{concat}
use Rattle.std.proofs.Math.Seq.{drop-length, take-length}
use Rattle.std.proofs.lemmas.List.{length-replicate}
use Rattle.cards.specs.Cards.{Cards, sent, flushed}

-- the first n logs went to the queue
abbrev pub flushed_up_to : ℕ → Cards → Cards
flushed_up_to n t = record {
  dirty = t.dirty;
  logs = replicate n [] ++ drop n t.logs;
  queue = t.queue ++ concat (take n t.logs);
}

emptied_more : (logs : List (List ℕ)) (i : ℕ) → i < length logs
    → set (replicate i [] ++ drop i logs) i [] ≡ replicate (suc i) [] ++ drop (suc i) logs
emptied_more [] i h = absurd (omega arith)
emptied_more (log ∷ logs) zero h = refl
emptied_more (log ∷ logs) (suc i) h = ap (λ l. [] ∷ l) (emptied_more logs i (omega arith))

concat_more : (logs : List (List ℕ)) (i : ℕ) → i < length logs → concat (take (suc i) logs) ≡ concat (take i logs) ++ get_or logs i []
concat_more [] i h = absurd (omega arith)
concat_more (log ∷ logs) zero h = append-nil log
concat_more (log ∷ logs) (suc i) h = ap (λ l. log ++ l) (concat_more logs i (omega arith))
    ∙ sym (append_assoc log (concat (take i logs)) (get_or logs i []))

log_left : (logs : List (List ℕ)) (i : ℕ) → i < length logs → get_or (replicate i [] ++ drop i logs) i [] ≡ get_or logs i []
log_left [] i h = absurd (omega arith)
log_left (log ∷ logs) zero h = refl
log_left (log ∷ logs) (suc i) h = log_left logs i (omega arith)

-- one more log goes
pub sent_more : (t : Cards) (i : ℕ) → i < length t.logs → sent (flushed_up_to i t) i ≡ flushed_up_to (i + 1) t
sent_more t i h =
    let queue : (t.queue ++ concat (take i t.logs)) ++ get_or (replicate i [] ++ drop i t.logs) i [] ≡ t.queue ++ concat
    (take (suc i) t.logs) =
    ap (λ l. (t.queue ++ concat (take i t.logs)) ++ l) (log_left t.logs i h)
    ∙ append_assoc t.queue (concat (take i t.logs)) (get_or t.logs i []) ∙ ap (λ l. t.queue ++ l) (sym (concat_more t.logs i h)) in
    rw (add-one, emptied_more t.logs i h, queue) refl

pub all_sent : (t : Cards) (n : ℕ) → n ≡ length t.logs → flushed_up_to n t ≡ flushed t
all_sent t n e = rw (e, take-length, drop-length, append-nil) refl

pub length-flushed_up_to : (t : Cards) (i : ℕ) → i ≤ length t.logs → length (flushed_up_to i t).logs ≡ length t.logs
length-flushed_up_to t i h =
    omega (arith, length-append (replicate {A = List ℕ} i []) (drop i t.logs), length-replicate {A = List ℕ} i [], length-drop i t.logs)
