use Rattle.xl_radix_walk.proofs.Common.{◌+◌, ◌∙◌, ◌≡◌, above_off, ap, arith, entries_of, length, sym, with_items, with_items_is}
use Rattle.xl_radix_walk.proofs.AboveLemmas.{entries-above, fenced-above, length-above}
use Rattle.xl_radix_walk.proofs.walk_caches.WalkCaches.fence.Goals as goal

pub fence_caches-requires : goal.fence_caches-requires
fence_caches-requires c =
    let v : above_off c.self.inside.lowest c.deref_mut.result.now ≡ c.args.self.now = rw c.deref_mut.ensures.value c.self.view_is in
    let s : length c.args.self.now ≡ c.self.inside.lowest + length c.deref_mut.result.now = sym (ap length v) ∙ length-above c.self.inside.lowest c.deref_mut.result.now in
    let h = c.requires in
    omega arith

pub returns : goal.returns
returns c =
    let n = c.self.inside.lowest in
    let ds = c.deref_mut.result.now in
    let v : above_off n ds ≡ c.args.self.now = rw c.deref_mut.ensures.value c.self.view_is in
    let w : (with_items c.self.inside.kept c.fence_caches.new.caches).items ≡ c.fence_caches.new.caches = with_items_is c.self.inside.kept c.fence_caches.new.caches (c.fence_caches.auto.caches ∙ ap length c.deref_mut.ensures.value ∙ sym c.self.inside.kept.ok.0) in
    let a : entries_of (above_off n c.fence_caches.new.caches) ≡ entries_of c.fence_caches.new.caches = entries-above n c.fence_caches.new.caches in
    record {
      caches = rw (← v, w) (ap (above_off n) c.fence_caches.ensures.caches ∙ sym (fenced-above n c.args.reach ds));
      count = rw (← v, w, a, entries-above n ds) c.fence_caches.ensures.count;
    }
