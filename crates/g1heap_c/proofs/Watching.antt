-- What one watch sees, another one does too, which knows less.
use Rattle.std.proofs.Common.{◌⊎◌, ◌+◌, ◌*◌, ℕ, Bool, List, [], ◌∷◌, length, Option, Some, inl, inr, ap}
use Rattle.heap_steps.specs.declared.step.Event.{Event}
use Rattle.heap_steps.specs.declared.step.Op.{Op}
use Rattle.heap_steps.specs.declared.step.Reply.{Reply}
use Rattle.step_core.specs.Stands.{CoreState}
use Rattle.collection.specs.Markings.{CountsMarking}
use Rattle.collection.specs.Steps.{CollectsWithin, HoldsBack, Makes, Sees, TakesOwn}
use Rattle.heap_calls.specs.declared.answer.Answer.{Answer}
use Rattle.g1heap_c.specs.MadeFilled.{AsksToFill}
use Rattle.g1heap_c.specs.Noted.{IsEntered}
use Rattle.g1heap_c.specs.Policies.{AnswersMake, AsksOrNils, ShrinksIn, asked}
use Rattle.g1heap_c.specs.declared.noted.Notes.{Notes}

module _ {W V : Type 0} (sees : W → Event → W → Type 0) (sees' : V → Event → V → Type 0) (f : W → V)
    (each : (x : W) (e : Event) (y : W) → sees x e y → sees' (f x) e (f y)) where
  seen_as : (x y : W) (es : List Event) → Sees sees x es y → Sees sees' (f x) es (f y)
  seen_as x y [] h = ap f h
  seen_as x y (e ∷ es) h = (f h.0, each x e h.0 h.1, seen_as h.0 y es h.2)

  collects_as : (most : ℕ) (c c' : CoreState) (x x' : W) → CollectsWithin sees most c x c' x'
      → CollectsWithin sees' most c (f x) c' (f x')
  collects_as most c c' x x' a = record {
    events = a.events;
    few = a.few;
    collectors = a.collectors;
    seen = seen_as x x' a.events a.seen;
    runs = a.runs;
    two = a.two;
    config = a.config;
    next = a.next;
  }

  own_as : (op : Op) (reply : Reply) (c c' : CoreState) (x x' : W) → TakesOwn sees op reply c x c' x' ⊎ HoldsBack op reply c x c' x'
      → TakesOwn sees' op reply c (f x) c' (f x') ⊎ HoldsBack op reply c (f x) c' (f x')
  own_as op reply c c' x x' (inl t) = inl (record { seen = each x _ x' t.seen; passes = t.passes })
  own_as op reply c c' x x' (inr h) = inr (record {
    reply_is = h.reply_is;
    creates = h.creates;
    core = h.core;
    watch = ap f h.watch;
    leaves = h.leaves;
    no_room = h.no_room;
  })

  makes_as : (most : ℕ) (op : Op) (reply : Reply) (c c' : CoreState) (x x' : W) → Makes sees most op reply c x c' x'
      → Makes sees' most op reply c (f x) c' (f x')
  makes_as most op reply c c' x x' a = record {
    core = a.core;
    watch = f a.watch;
    collects = collects_as most c a.core x a.watch a.collects;
    own = own_as op reply a.core c' a.watch x' a.own;
  }

  answers_as : (c : CoreState) (x x' : W) (op : Op) (answer : Answer) (after : Option CoreState)
      → AnswersMake sees c x op answer after x' → AnswersMake sees' c (f x) op answer after (f x')
  answers_as c x x' op answer after a = record {
    reply = a.reply;
    core = a.core;
    tells = a.tells;
    held = a.held;
    makes = makes_as (5 * c.config.regions + 12) op a.reply c a.core x x' a.makes;
    full = a.full;
    two = a.two;
  }

-- who notes steps counts the markings that they end
abbrev count : Notes → ℕ
count x = x.markings

counts_each : (x : Notes) (e : Event) (y : Notes) → IsEntered x e y → CountsMarking (count x) e (count y)
counts_each x e y h = h.markings

pub collects_counted : (most : ℕ) (c c' : CoreState) (x x' : Notes) → CollectsWithin IsEntered most c x c' x'
    → CollectsWithin CountsMarking most c x.markings c' x'.markings
collects_counted most c c' x x' a = collects_as IsEntered CountsMarking count counts_each most c c' x x' a

answers_counted : (c : CoreState) (x x' : Notes) (op : Op) (answer : Answer) (after : Option CoreState)
    → AnswersMake IsEntered c x op answer after x' → AnswersMake CountsMarking c x.markings op answer after x'.markings
answers_counted c x x' op answer after a = answers_as IsEntered CountsMarking count counts_each c x x' op answer after a

pub nils_counted : (number to : ℕ) (c : CoreState) (x x' : Notes) (op : Op) (answer : Answer) (after : Option CoreState)
    → AsksOrNils IsEntered number to c x op answer after x' → AsksOrNils CountsMarking number to c x.markings op answer after x'.markings
unfolding answers_counted answers_as
nils_counted number to c x x' op answer after a = record {
  made = a.made;
  asks = answers_counted c x x' op answer (Some a.made) a.asks;
  last = a.last;
  nils = a.nils;
  held = a.held;
}

pub fills_counted : (number : ℕ) (c : CoreState) (x x' : Notes) (m to : ℕ) (from words : List ℕ) (answer : Answer)
    (after : Option CoreState) → AsksToFill IsEntered number c x m to from words answer after x'
    → AsksToFill CountsMarking number c x.markings m to from words answer after x'.markings
unfolding answers_counted answers_as
fills_counted number c x x' m to from words answer after a = record {
  made = a.made;
  asks = answers_counted c x x' (asked m to (length from) 0 (length words)) answer (Some a.made) a.asks;
  filled = a.filled;
  fills = a.fills;
  last = a.last;
  nils = a.nils;
  held = a.held;
}

pub shrinks_counted : (granted : Bool) (c : CoreState) (x x' : Notes) (answer : Answer) (after : Option CoreState)
    → ShrinksIn IsEntered granted c x answer after x' → ShrinksIn CountsMarking granted c x.markings answer after x'.markings
shrinks_counted granted c x x' answer after a = record {
  core = a.core;
  tells = a.tells;
  held = a.held;
  collects = collects_counted (13 + 4 * c.config.regions) c a.core x x' a.collects;
  collected = a.collected;
  packed = a.packed;
  compact = a.compact;
}
