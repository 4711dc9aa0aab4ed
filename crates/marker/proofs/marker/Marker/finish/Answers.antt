use Rattle.std.proofs.Common.{rules, ◌≡◌, ◌+◌, ◌<◌, ℕ, false, refl, sym, ap, ◌∙◌, subst, Bool, List, [], length}
use Rattle.mark_bitmap.specs.Marks.{is_marked, marked_count}
use Rattle.satb_log.specs.Logs.{log_of}
use Rattle.marker.specs.Counts.{ScanTotals, IsMore}
use Rattle.marker.specs.declared.marker.Marker.{Marker}
use Rattle.marker.proofs.Reached.{same_trans}
use Rattle.marker.proofs.Marking.{snapshots_trans}
use Rattle.marker.proofs.Ended.{IsExchanged, over, done_count, exchanged_stands, ends_exactly}
use Rattle.marker.proofs.marker.Marker.finish.Goals as goal

pub returns : goal.returns
returns c =
    let t = c.args.table.now in
    let m = c.args.self.now in
    let r = c.take_all_roots.ensures in
    let s = c.mark_rest.ensures in
    let p = over t m c.take_all_roots.new.self c.mark_rest.new.self c.requires.running
    (same_trans m c.take_logs.new.self c.take_all_roots.new.self c.take_logs.ensures.same r.same)
    (snapshots_trans t m c.take_logs.new.self c.take_all_roots.new.self c.take_logs.ensures.same c.take_logs.ensures.snapshots r.snapshots)
    (subst (λ (ls : List (List ℕ)). (k : ℕ) → k < length ls → log_of ls k ≡ []) (sym r.logs) c.take_logs.ensures.emptied)
    s.stands s.same s.snapshots s.logs r.none_left s.waiting s.none_left s.pairs in
    let count = done_count c.args.table.now c.mark_rest.new.self p.stands p.running p.scanned in
    let last : Marker = record {
      bitmaps = c.swap_roles.new.self;
      tams = c.swap_roles-2.new.self;
      grey = c.mark_rest.new.self.grey;
      logs = c.mark_rest.new.self.logs;
      running = false;
      scans = c.mark_rest.new.self.scans;
      live = c.swap_roles-3.new.self;
      waiting = c.mark_rest.new.self.waiting;
    } in
    let e : IsExchanged c.mark_rest.new.self last = record {
      previous = c.swap_roles.ensures.previous;
      next = c.swap_roles.ensures.next;
      tams = c.swap_roles-2.ensures;
      grey = refl;
      logs = refl;
      live = c.swap_roles-3.ensures;
      waiting = refl;
      off = refl;
    } in
    record {
      stands = exchanged_stands c.args.table.now c.mark_rest.new.self last p.stands p.scanned e;
      over = refl;
      exact = rw c.since-count.ensures (ends_exactly c.args.table.now c.args.self.now c.mark_rest.new.self last _ p e count);
      count = c.since-count.ensures ∙ count ∙ ap marked_count (sym c.swap_roles.ensures.previous);
      scans = search rules;
      scanned = λ a k. s.grows.scanned a (ap (λ (b : List Bool). is_marked b a) (r.scanned ∙ c.take_logs.ensures.scanned) ∙ k);
      counted = s.stands.counted (s.same.running ∙ r.same.running ∙ c.take_logs.ensures.same.running ∙
          c.requires.running);
      work = record {
        count = s.work.count;
        scanned = s.work.scanned
            ∙ ap (λ (b : List Bool). marked_count b + s.work.count) (r.scanned ∙ c.take_logs.ensures.scanned);
        scans = subst (λ (x : ScanTotals). IsMore x c.mark_rest.new.self.scans s.work.count)
            (r.scans ∙ c.take_logs.ensures.scans) s.work.scans;
      };
      tops = search rules;
      marks = search rules;
      mutators = search rules;
      room = s.same.room ∙ r.same.room ∙ c.take_logs.ensures.same.room;
    }
