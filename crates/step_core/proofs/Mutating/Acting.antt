-- A step's reply, and what the core shows after it.
use Rattle.std.proofs.Common.{◌≡◌, ℕ, ◌+◌, ◌-◌, ◌<◌, ◌≤◌, Option, Some, None, List, length, get_or, refl, sym, ◌∙◌, ap, subst}
use Rattle.std.specs.Prelude.{slice_get, slice_set}
use Rattle.std.specs.List.{AllZip}
use Rattle.heap_model.specs.Graph.{Graph, Object, RootCounts, object_named, with_changed, held_by}
use Rattle.heap_model.specs.Heap.{Stored, IsShown, ObjectSet}
use Rattle.heap_words.specs.Configs.{object_limit}
use Rattle.std.proofs.lemmas.List.{length-set}
use Rattle.std.proofs.lemmas.Option.{slice_get-get_or}
use Rattle.heap_model.specs.Clearing.{IsWeakShown, kept_word, kept_held}
use Rattle.heap_model.proofs.Waiting.{will_root_set, will_object_set}
use Rattle.regions.specs.Table.{Table, pointers_at, weaks_at, values_at, object_values, set_value}
use Rattle.regions.proofs.Tiles.Changes.{WritesObject, value_put}
use Rattle.regions.proofs.Words.Values.{with_value}
use Rattle.graph_runs.specs.State.{with_root, root_at, register_place, root_counts_of}
use Rattle.graph_runs.specs.Machine.{Outcome, act, on_object, on_name, on_contents, refused, stored}
use Rattle.step_core.specs.Steps.{Action, Refusal, Register, Reply}
use Rattle.heap_steps.specs.declared.step.Action.TheVariants as actions
use Rattle.heap_steps.specs.declared.step.Reply.TheVariants as replies
use Rattle.heap_steps.specs.declared.step.Refusal.TheVariants as refusals
use Rattle.step_core.specs.Stands.{CoreState, kept_of, heap_of, ShowsGraph, IsCore, IsWordOf, RootNames, Leads, name_in}
use Rattle.step_core.specs.Answers.{Acts}
use Rattle.step_core.specs.Mutators.{with_root_word}
use Rattle.step_core.specs.Parts.{DoesAction, GetsWeak}
use Rattle.step_core.proofs.Mutating.Reading.{field_shown, slot_shown, no_field, no_slot, no_value, shown_name}
use Rattle.step_core.proofs.Mutating.Reading.{object_kept, pointers_there, weaks_there, AllZip-length}
use Rattle.step_core.proofs.Mutating.Written.{SamePlaces, object_written}

pub acts_by : (g : Graph) (m : ℕ) (a : Action) (reply : Reply) (c : CoreState) (out : Outcome) → act g m a ≡ out → reply ≡ out.0
    → ShowsGraph out.1 c → Acts g m a reply c
acts_by g m a reply c out e r s = record {
  reply_is = r ∙ sym (ap (λ (o : Outcome). o.0) e);
  shows = subst (λ (o : Outcome). ShowsGraph o.1 c) (sym e) s;
}

on_found : (g : Graph) (c : CoreState) (s : ShowsGraph g c) (m a : ℕ) (r : Register) (f : ℕ → Object → Outcome)
    (h : RootNames g c (register_place (root_counts_of c.config) m r.number) a) → on_object g m r f ≡ f h.stored.name h.object
on_found g c s m a r f h = ap (λ (p : RootCounts). on_name g (root_at g (register_place p m r.number)) f) s.places
    ∙ ap (λ (o : Option ℕ). on_name g o f) h.root ∙ ap (λ (o : Option Object). on_contents g o (f h.stored.name)) h.found

-- a register that is nil names no object
nil_object : (g : Graph) (c : CoreState) → ShowsGraph g c → (m : ℕ) (r : Register) (f : ℕ → Object → Outcome)
    → Leads c (register_place (root_counts_of c.config) m r.number) None → on_object g m r f ≡ refused g refusals.Nil
nil_object g c s m r f l =
    ap (λ (p : RootCounts). on_name g (root_at g (register_place p m r.number)) f) s.places ∙ ap (λ (o : Option ℕ). on_name g o f) (l g s)

nil_acts : (g : Graph) (c : CoreState) → ShowsGraph g c → (m : ℕ) (r : Register) (a : Action) (f : ℕ → Object → Outcome)
    → act g m a ≡ on_object g m r f → Leads c (register_place (root_counts_of c.config) m r.number) None
    → Acts g m a (replies.Refused refusals.Nil) c
nil_acts g c s m r a f is l = acts_by g m a (replies.Refused refusals.Nil) c (refused g refusals.Nil) (is ∙ nil_object g c s m r f l) refl s

pub write_nil : (g : Graph) (c : CoreState) → ShowsGraph g c → (m : ℕ) (object : Register) (i v : ℕ)
    → Leads c (register_place (root_counts_of c.config) m object.number) None
    → Acts g m (actions.Write object i v) (replies.Refused refusals.Nil) c
write_nil g c s m object i v = nil_acts g c s m object (actions.Write object i v) _ refl

pub put_nil : (g : Graph) (c : CoreState) → ShowsGraph g c → (m : ℕ) (object : Register) (i : ℕ) (value : Option Register)
    → Leads c (register_place (root_counts_of c.config) m object.number) None
    → Acts g m (actions.Put object i value) (replies.Refused refusals.Nil) c
put_nil g c s m object i value = nil_acts g c s m object (actions.Put object i value) _ refl

pub get_nil : (g : Graph) (c : CoreState) → ShowsGraph g c → (m : ℕ) (to object : Register) (i : ℕ)
    → Leads c (register_place (root_counts_of c.config) m object.number) None
    → Acts g m (actions.Get to object i) (replies.Refused refusals.Nil) c
get_nil g c s m to object i = nil_acts g c s m object (actions.Get to object i) _ refl

-- a refused action changes nothing
pub refused_does : (m : ℕ) (a : Action) (why : Refusal) (c : CoreState)
    → ((g : Graph) → ShowsGraph g c → Acts g m a (replies.Refused why) c) → DoesAction m a (replies.Refused why) c c
refused_does m a why c acts = record { acts = acts; keeps = λ s f. f; after = refl; leaves = record { config = refl; in_use = λ j n. n } }

-- the same of one that reads a weak slot
pub refused_gets : (m : ℕ) (to object : Register) (slot : ℕ) (why : Refusal) (c : CoreState)
    → ((g : Graph) → ShowsGraph g c → Acts g m (actions.GetWeak to object slot) (replies.Refused why) c)
    → GetsWeak m to object slot (replies.Refused why) c c
refused_gets m to object slot why c acts = record {
  acts = acts;
  keeps = λ s g shows u f. f;
  after = refl;
  leaves = record { config = refl; in_use = λ j n. n };
}

pub root_shows : (g : Graph) (c : CoreState) (place : ℕ) (w v : Option ℕ) → ShowsGraph g c → IsShown (heap_of c) w v
    → ShowsGraph (with_root g place v) (with_root_word c place w)
unfolding kept_of
root_shows g c place w v s shown = record {
  room = s.room;
  places = s.places;
  next = s.next;
  shows =
      will_root_set g (heap_of c) (heap_of (with_root_word c place w)) s.shows place w v shown (record { kept = λ a. refl; roots = refl });
}

pub values_there : (c : CoreState) (a : ℕ) (x : Stored) → kept_of c a ≡ Some x → values_at c.table a ≡ x.values
unfolding values_at
values_there c a x e = ap object_values (object_kept c a x e)

pub field_word : (c : CoreState) (place a i : ℕ) (w : Option ℕ) → IsCore c → Leads c place (Some a)
    → slice_get (pointers_at c.table a) i ≡ Some w → IsWordOf (heap_of c) w
field_word c place a i w k l e =
    let h = l k.footing.graph k.rests.shows in
    let f = field_shown k.footing.graph c place a i w h
    (ap (λ (ps : List (Option ℕ)). slice_get ps i) (sym (pointers_there c a h.stored h.at)) ∙ e) in
    record { name = f.name; shown = f.shown }

pub slot_word : (c : CoreState) (place a i : ℕ) (w : Option ℕ) → IsCore c → Leads c place (Some a)
    → slice_get (weaks_at c.table a) i ≡ Some w → IsWordOf (heap_of c) (kept_word (kept_of c) w)
slot_word c place a i w k l e =
    let h = l k.footing.graph k.rests.shows in
    let f =
    slot_shown k.footing.graph c place a i w h (ap (λ (ps : List (Option ℕ)). slice_get ps i) (sym (weaks_there c a h.stored h.at)) ∙ e) in
    record { name = f.name; shown = f.shown }

-- the core with another object of the same name at an address
pub object_shows : (g : Graph) (c c' : CoreState) (a : ℕ) (x y : Stored) (o p : Object) → ShowsGraph g c → SamePlaces c c'
    → ObjectSet (heap_of c) (heap_of c') a x y → object_named g x.name ≡ Some o → AllZip (IsShown (heap_of c)) y.pointers p.pointers
    → AllZip (IsWeakShown (heap_of c)) y.weaks p.weaks → AllZip (IsShown (heap_of c)) (kept_held (kept_of c) y) p.held
    → held_by y.weaks y.held ≡ y.held → y.values ≡ p.values → ShowsGraph (with_changed g x.name p) c'
object_shows g c c' a x y o p s same set named pointers weaks held keyed values = record {
  room = s.room ∙ sym (ap object_limit same.config);
  places = s.places ∙ sym (ap root_counts_of same.config);
  next = ap (λ n. g.first_name + n) (length-set g.objects (x.name - g.first_name) p) ∙ s.next ∙ sym same.next;
  shows = will_object_set g (heap_of c) (heap_of c') s.shows a x y o p set named pointers weaks held keyed values;
}

-- the same of an object that is known by its name: by what was shown of it the other one is shown
pub named_shows : (g : Graph) (c c' : CoreState) (a : ℕ) (x y z : Stored) (o p : Object) → ShowsGraph g c → SamePlaces c c'
    → ObjectSet (heap_of c) (heap_of c') a x y → kept_of c a ≡ Some z → object_named g z.name ≡ Some o
    → (AllZip (IsShown (heap_of c)) x.pointers o.pointers → AllZip (IsShown (heap_of c)) y.pointers p.pointers)
    → (AllZip (IsWeakShown (heap_of c)) x.weaks o.weaks → AllZip (IsWeakShown (heap_of c)) y.weaks p.weaks)
    → (AllZip (IsShown (heap_of c)) (kept_held (kept_of c) x) o.held → AllZip (IsShown (heap_of c)) (kept_held (kept_of c) y) p.held)
    → (held_by x.weaks x.held ≡ x.held → held_by y.weaks y.held ≡ y.held)
    → (x.values ≡ o.values → y.values ≡ p.values) → ShowsGraph (with_changed g z.name p) c'
named_shows g c c' a x y z o p s same set at named pointers weaks held keyed values =
    let was : kept_of c a ≡ Some x = set.was in
    let here : z ≡ x = cc in
    let named' : object_named g x.name ≡ Some o = ap (λ (u : Stored). object_named g u.name) (sym here) ∙ named in
    let shown = s.shows.objects a x was in
    let is : shown.object ≡ o = let e = shown.named in cc in
    subst (λ (u : Stored). ShowsGraph (with_changed g u.name p) c') (sym here)
    (object_shows g c c' a x y o p s same set named'
    (pointers (subst (λ (q : Object). AllZip (IsShown (heap_of c)) x.pointers q.pointers) is shown.pointers))
    (weaks (subst (λ (q : Object). AllZip (IsWeakShown (heap_of c)) x.weaks q.weaks) is shown.weaks))
    (held (subst (λ (q : Object). AllZip (IsShown (heap_of c)) (kept_held (kept_of c) x) q.held) is shown.held)) (keyed shown.keyed)
    (values (shown.values ∙ ap (λ (q : Object). q.values) is)))

module _ (g : Graph) (c : CoreState) (s : ShowsGraph g c) (m : ℕ) (object : Register) where
  module _ (a : ℕ) (l : Leads c (register_place (root_counts_of c.config) m object.number) (Some a)) where
    -- the object has no such field
    past_acts : (b : Action) (f : ℕ → Object → Outcome) → act g m b ≡ on_object g m object f
        → ((h : RootNames g c (register_place (root_counts_of c.config) m object.number) a)
        → f h.stored.name h.object ≡ refused g refusals.NoField)
        → Acts g m b (replies.Refused refusals.NoField) c
    past_acts b f is none = let h = l g s in
        acts_by g m b (replies.Refused refusals.NoField) c (refused g refusals.NoField) (is ∙ on_found g c s m a object f h ∙ none h) refl s

    pub get_past : (to : Register) (i : ℕ) → length (pointers_at c.table a) ≤ i
        → Acts g m (actions.Get to object i) (replies.Refused refusals.NoField) c
    get_past to i k = past_acts (actions.Get to object i) _ refl
        (λ h. let none = no_field g c _ a i h (rw (pointers_there c a h.stored h.at) at k) in rw none refl)

    pub put_past : (i : ℕ) (value : Option Register) → length (pointers_at c.table a) ≤ i
        → Acts g m (actions.Put object i value) (replies.Refused refusals.NoField) c
    put_past i value k = past_acts (actions.Put object i value) _ refl
        (λ h. let none = no_field g c _ a i h (rw (pointers_there c a h.stored h.at) at k) in rw none refl)

    pub get_weak_past : (to : Register) (i : ℕ) → length (weaks_at c.table a) ≤ i
        → Acts g m (actions.GetWeak to object i) (replies.Refused refusals.NoField) c
    get_weak_past to i k = past_acts (actions.GetWeak to object i) _ refl
        (λ h. let none = no_slot g c _ a i h (rw (weaks_there c a h.stored h.at) at k) in rw none refl)

    pub put_weak_past : (i : ℕ) (value : Option Register) → length (weaks_at c.table a) ≤ i
        → Acts g m (actions.PutWeak object i value) (replies.Refused refusals.NoField) c
    put_weak_past i value k = past_acts (actions.PutWeak object i value) _ refl
        (λ h. let none = no_slot g c _ a i h (rw (weaks_there c a h.stored h.at) at k) in rw none refl)

    pub read_past : (i : ℕ) → length (values_at c.table a) ≤ i → Acts g m (actions.Read object i) (replies.Refused refusals.NoField) c
    read_past i k = past_acts (actions.Read object i) _ refl
        (λ h. let none = no_value g c _ a i h (rw (values_there c a h.stored h.at) at k) in rw none refl)

    pub write_past : (i v : ℕ) → length (values_at c.table a) ≤ i → Acts g m (actions.Write object i v) (replies.Refused refusals.NoField) c
    write_past i v k = past_acts (actions.Write object i v) _ refl
        (λ h. let none = no_value g c _ a i h (rw (values_there c a h.stored h.at) at k) in rw none refl)

    -- get: the register that the field goes to
    pub get_done : (to : Register) (i : ℕ) (w : Option ℕ) (n : Option ℕ) (c' : CoreState)
        → slice_get (pointers_at c.table a) i ≡ Some w → n ≡ name_in c.table w
        → ((g : Graph) (v : Option ℕ) → ShowsGraph g c → IsShown (heap_of c) w v
        → ShowsGraph (with_root g (register_place g.places m to.number) v) c')
        → Acts g m (actions.Get to object i) (replies.Named n) c'
    get_done to i w n c' e name after =
        let h = l g s in
        let f = field_shown g c _ a i w h (ap (λ (ps : List (Option ℕ)). slice_get ps i) (sym (pointers_there c a h.stored h.at)) ∙ e) in
        let there = f.there in
        acts_by g m (actions.Get to object i) (replies.Named n) c'
        (replies.Named f.name, with_root g (register_place g.places m to.number) f.name)
        (on_found g c s m a object _ h ∙ rw there refl) (ap replies.Named (name ∙ shown_name c w f.name f.shown)) (after g f.name s f.shown)

    -- the same of a weak slot
    pub get_weak_done : (to : Register) (i : ℕ) (w : Option ℕ) (n : Option ℕ) (c' : CoreState)
        → slice_get (weaks_at c.table a) i ≡ Some w → n ≡ name_in c.table (kept_word (kept_of c) w)
        → ((g : Graph) (v : Option ℕ) → ShowsGraph g c → IsShown (heap_of c) (kept_word (kept_of c) w) v
        → ShowsGraph (with_root g (register_place g.places m to.number) v) c')
        → Acts g m (actions.GetWeak to object i) (replies.Named n) c'
    get_weak_done to i w n c' e name after =
        let h = l g s in
        let f = slot_shown g c _ a i w h (ap (λ (ps : List (Option ℕ)). slice_get ps i) (sym (weaks_there c a h.stored h.at)) ∙ e) in
        let there = f.there in
        acts_by g m (actions.GetWeak to object i) (replies.Named n) c'
        (replies.Named f.name, with_root g (register_place g.places m to.number) f.name)
        (on_found g c s m a object _ h ∙ rw there refl) (ap replies.Named (name
        ∙ shown_name c (kept_word (kept_of c) w) f.name f.shown)) (after g f.name s f.shown)

    -- what the reply names is what the slot shows
    pub slot_named : (i : ℕ) (w n v : Option ℕ) → slice_get (weaks_at c.table a) i ≡ Some w → n ≡ name_in c.table (kept_word (kept_of c) w)
        → replies.Named n ≡ replies.Named v → IsShown (heap_of c) (kept_word (kept_of c) w) v
    slot_named i w n v e name reply =
        let h = l g s in
        let f = slot_shown g c _ a i w h (ap (λ (ps : List (Option ℕ)). slice_get ps i) (sym (weaks_there c a h.stored h.at)) ∙ e) in
        let same : n ≡ v = let q = reply in cc in
        subst (IsShown (heap_of c) (kept_word (kept_of c) w)) (sym (shown_name c (kept_word (kept_of c) w) f.name f.shown) ∙ sym name
        ∙ same) f.shown

    pub weaks_done : (n : ℕ) → n ≡ length (weaks_at c.table a) → Acts g m (actions.Weaks object) (replies.Word n) c
    weaks_done n e =
        let h = l g s in
        let count : n ≡ length h.object.weaks = e ∙ ap (λ (ps : List (Option ℕ)). length ps) (weaks_there c a h.stored h.at)
        ∙ AllZip-length (IsWeakShown (heap_of c)) h.stored.weaks h.object.weaks h.weaks in
        acts_by g m (actions.Weaks object) (replies.Word n) c (replies.Word (length h.object.weaks), g)
        (on_found g c s m a object _ h) (ap replies.Word count) s

    pub read_done : (i w : ℕ) → slice_get (values_at c.table a) i ≡ Some w → Acts g m (actions.Read object i) (replies.Word w) c
    read_done i w e =
        let h = l g s in
        let there : slice_get h.object.values i ≡ Some w =
        ap (λ (ps : List ℕ). slice_get ps i) (sym (values_there c a h.stored h.at ∙ h.values)) ∙ e in
        acts_by g m (actions.Read object i) (replies.Word w) c (replies.Word w, g) (on_found g c s m a object _ h ∙ rw there refl) refl s

    pub shape_done : (p d : ℕ) → p ≡ length (pointers_at c.table a) → d ≡ length (values_at c.table a)
        → Acts g m (actions.Shape object) (replies.Shape p d) c
    shape_done p d ep ed =
        let h = l g s in
        let np : p ≡ length h.object.pointers = ep ∙ ap (λ (ps : List (Option ℕ)). length ps) (pointers_there c a h.stored h.at)
        ∙ AllZip-length (IsShown (heap_of c)) h.stored.pointers h.object.pointers h.pointers in
        let nd : d ≡ length h.object.values = ed ∙ ap (λ (ps : List ℕ). length ps) (values_there c a h.stored h.at ∙ h.values) in
        acts_by g m (actions.Shape object) (replies.Shape p d) c (replies.Shape (length h.object.pointers) (length h.object.values), g)
        (on_found g c s m a object _ h) (ap (λ n. replies.Shape n d) np ∙ ap (λ n. replies.Shape (length h.object.pointers) n) nd) s

    -- put: the store
    pub put_done : (i : ℕ) (value : Option Register) (w : Option ℕ) (c' : CoreState) → i < length (pointers_at c.table a)
        → IsShown (heap_of c) w (stored g m value)
        → ((g : Graph) (x : Stored) (o : Object) (v : Option ℕ) → ShowsGraph g c → kept_of c a ≡ Some x
        → object_named g x.name ≡ Some o → IsShown (heap_of c) w v
        → ShowsGraph (with_changed g x.name (record o { pointers = slice_set o.pointers i v })) c')
        → Acts g m (actions.Put object i value) replies.Done c'
    put_done i value w c' k shown after =
        let h = l g s in
        let k' : i < length h.stored.pointers = rw (pointers_there c a h.stored h.at) at k in
        let f = field_shown g c _ a i _ h (slice_get-get_or h.stored.pointers i None k') in
        let there = f.there in
        let v : Option ℕ = stored g m value in
        let p : Object = record h.object { pointers = slice_set h.object.pointers i v } in
        acts_by g m (actions.Put object i value) replies.Done c' (replies.Done, with_changed g h.stored.name p)
        (on_found g c s m a object _ h ∙ rw there refl) refl (after g h.stored h.object v s h.at h.named shown)

    pub put_weak_done : (i : ℕ) (value : Option Register) (w : Option ℕ) (c' : CoreState) → i < length (weaks_at c.table a)
        → IsShown (heap_of c) w (stored g m value)
        → ((g : Graph) (x : Stored) (o : Object) (v : Option ℕ) → ShowsGraph g c → kept_of c a ≡ Some x
        → object_named g x.name ≡ Some o → IsShown (heap_of c) w v
        → ShowsGraph (with_changed g x.name (record o { weaks = slice_set o.weaks i v })) c')
        → Acts g m (actions.PutWeak object i value) replies.Done c'
    put_weak_done i value w c' k shown after =
        let h = l g s in
        let k' : i < length h.stored.weaks = rw (weaks_there c a h.stored h.at) at k in
        let f = slot_shown g c _ a i _ h (slice_get-get_or h.stored.weaks i None k') in
        let there = f.there in
        let v : Option ℕ = stored g m value in
        let p : Object = record h.object { weaks = slice_set h.object.weaks i v } in
        acts_by g m (actions.PutWeak object i value) replies.Done c' (replies.Done, with_changed g h.stored.name p)
        (on_found g c s m a object _ h ∙ rw there refl) refl (after g h.stored h.object v s h.at h.named shown)

    pub write_is : (i v : ℕ) (h : RootNames g c (register_place (root_counts_of c.config) m object.number) a)
        → i < length (values_at c.table a)
        → act g m (actions.Write object i v)
        ≡ (replies.Done, with_changed g h.stored.name (record h.object { values = slice_set h.object.values i v }))
    write_is i v h k =
        let k' : i < length h.stored.values = rw (values_there c a h.stored h.at) at k in
        let there : slice_get h.object.values i ≡ Some (get_or h.stored.values i 0) =
        ap (λ (ps : List ℕ). slice_get ps i) (sym h.values) ∙ slice_get-get_or h.stored.values i 0 k' in
        on_found g c s m a object _ h ∙ rw there refl

    pub write_done : (i v : ℕ) (t : Table) → i < length (values_at c.table a) → 0 < c.table.words_per_region → t ≡ set_value c.table a i v
        → Acts g m (actions.Write object i v) replies.Done (record c { table = t })
    write_done i v t k z e =
        let h = l g s in
        let p : Object = record h.object { values = slice_set h.object.values i v } in
        let writes = subst (λ (u : Table). WritesObject c.table u a h.stored (with_value h.stored i v)) (sym e)
        (value_put c.table a i v h.stored z (object_kept c a h.stored h.at)) in
        acts_by g m (actions.Write object i v) replies.Done (record c { table = t }) (replies.Done, with_changed g h.stored.name p)
        (write_is i v h k) refl
        (object_shows g c (record c { table = t }) a h.stored (with_value h.stored i v) h.object p s (record { config = refl; next = refl })
        (object_written c (record c { table = t }) a h.stored (with_value h.stored i v) writes refl h.at
        (record { tams = refl; previous = refl; roots = refl })) h.named h.pointers h.weaks h.held h.keyed
        (ap (λ (ps : List ℕ). slice_set ps i v) h.values))
