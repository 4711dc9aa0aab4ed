-- What is written, and what is still held.
use Rattle.std.proofs.Common.{◌≡◌, ◌+◌, ◌-◌, ◌<◌, ◌++◌, ◌∙◌}
use Rattle.std.proofs.Common.{ℕ, List, [], length, take, drop, Option, refl, sym, ap, subst, arith}
use Rattle.std.proofs.Math.Seq.{take-add, take-append_seam, drop-append_seam}
use Rattle.std.proofs.lemmas.List.{take_all, length-drop, length-append, take-append-le, drop-append-le, drop-drop}
use Rattle.std.proofs.KnownBytes.{Appends-nil, Appends-trans}
use Rattle.std.specs.Io.KnownBytes.{Appends}
use Rattle.script_text.specs.Watched.{Writer, TookBytes, TakesPart}
use Rattle.script_text.specs.Written.{IsWriting}

-- after the first bytes, the next ones
appends_more : (first old new : Option (List ℕ)) (bytes : List ℕ) (at count : ℕ) → Appends first old (take at bytes)
    → Appends old new (take count (take (length bytes - at) (drop at bytes))) → Appends first new (take (at + count) bytes)
appends_more first old new bytes at count p q =
    let whole : take (length bytes - at) (drop at bytes) ≡ drop at bytes = take_all _ _ (omega (arith, length-drop at bytes)) in
    rw (take-add at count bytes) (Appends-trans first old new (take at bytes) (take count (drop at bytes)) p (rw whole at q))

-- after the first bytes, the next ones, and no refusal
pub takes_more : (first old new : Writer) (bytes : List ℕ) (at count : ℕ) → TookBytes first old (take at bytes)
    → TookBytes old new (take count (take (length bytes - at) (drop at bytes))) → TookBytes first new (take (at + count) bytes)
takes_more first old new bytes at count p q = (appends_more first.held old.held new.held bytes at count p.0 q.0, q.1 ∙ p.1)

takes_none : (now : Writer) → TookBytes now now []
takes_none now = (Appends-nil now.held, refl)

takes_both : (a b c : Writer) (xs ys : List ℕ) → TookBytes a b xs → TookBytes b c ys → TookBytes a c (xs ++ ys)
takes_both a b c xs ys p q = (Appends-trans a.held b.held c.held xs ys p.0 q.0, q.1 ∙ p.1)

pub nothing_written : (text : List ℕ) (now : Writer) (held : List ℕ) → held ≡ text → IsWriting text now now held
nothing_written text now held all = record { done = 0; within = omega arith; written = takes_none now; rest = all }

-- a part of what was held is written
pub part_written : (text : List ℕ) (first old new : Writer) (held part left : List ℕ) → IsWriting text first old held
    → TookBytes old new part
    → held ≡ part ++ left → IsWriting text first new left
part_written text first old new held part left before appends cut =
    let whole : drop before.done text ≡ part ++ left = sym before.rest ∙ cut in
    let long : length part + length left ≡ length text - before.done =
    sym (length-append part left) ∙ ap length (sym whole) ∙ length-drop before.done text in
    let more : take (before.done + length part) text ≡ take before.done text ++ part =
    take-add before.done (length part) text ∙ ap (λ (t : List ℕ). take before.done text ++ take (length part) t) whole
    ∙ ap (λ (t : List ℕ). take before.done text ++ t) (take-append_seam part left) in
    record {
      done = before.done + length part;
      within = let w = before.within in omega arith;
      written = subst (λ (t : List ℕ). TookBytes first new t) (sym more)
          (takes_both first old new (take before.done text) part before.written appends);
      rest = sym (sym (drop-drop (length part) before.done text) ∙ ap (drop (length part)) whole ∙ drop-append_seam part left);
    }

-- the text has grown, and so has what is held
pub more_held : (text more whole : List ℕ) (first now : Writer) (held new : List ℕ) → IsWriting text first now held → whole ≡ text ++ more
    → new ≡ held ++ more → IsWriting whole first now new
more_held text more whole first now held new before grown put =
    subst (λ (t : List ℕ). IsWriting t first now new) (sym grown) (record {
      done = before.done;
      within = let w = before.within in omega (arith, length-append text more);
      written = subst (λ (t : List ℕ). TookBytes first now t) (sym (take-append-le before.done text more before.within)) before.written;
      rest = put ∙ ap (λ (t : List ℕ). t ++ more) before.rest ∙ sym (drop-append-le before.done text more before.within);
    })

-- a part of what was held is written, and no more of the whole text
pub stopped : (text more whole : List ℕ) (first old new : Writer) (held : List ℕ) → IsWriting text first old held → whole ≡ text ++ more
    → TakesPart old new held → TakesPart first new whole
stopped text more whole first old new held before grown stop =
    let n = stop.0.0 in
    let long : length held ≡ length text - before.done = ap length before.rest ∙ length-drop before.done text in
    let short : before.done + n < length text = let w = before.within in let s = stop.0.1 in omega arith in
    let part : take (before.done + n) text ≡ take before.done text ++ take n held =
    take-add before.done n text ∙ ap (λ (t : List ℕ). take before.done text ++ take n t) (sym before.rest) in
    let first_of : take (before.done + n) whole ≡ take before.done text ++ take n held =
    ap (take (before.done + n)) grown ∙ take-append-le (before.done + n) text more (omega arith) ∙ part in
    let written : Appends first.held new.held (take before.done text ++ take n held) =
    Appends-trans first.held old.held new.held (take before.done text) (take n held) before.written.0 stop.0.2 in (
      (
        before.done + n,
        omega (arith, ap length grown, length-append text more),
        subst (λ (t : List ℕ). Appends first.held new.held t) (sym first_of) written,
      ),
      stop.1,
    )
