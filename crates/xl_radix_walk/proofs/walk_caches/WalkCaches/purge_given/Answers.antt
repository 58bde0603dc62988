use Rattle.xl_radix_walk.proofs.Common.{◌+◌, ◌∙◌, ◌≡◌, ◌≤◌, above_off, ap, arith, entries_of, length, lit<, sym, with_items, with_items_is}
use Rattle.xl_radix_walk.proofs.AboveLemmas.{entries-above, length-above, purged-above}
use Rattle.xl_radix_walk.proofs.PurgeLemmas.{none-gone}
use Rattle.xl_radix_walk.proofs.walk_caches.WalkCaches.purge_given.Goals as goal

pub returns-then-given-eq0-clause-caches : goal.returns-then-given-eq0-clause-caches
returns-then-given-eq0-clause-caches g c = sym (none-gone 0 c.args.radix.now.nodes c.args.self.now (c.requires.none c.if-given-eq0.true))

pub purge-requires : goal.purge-requires
purge-requires g c =
    let v : above_off c.self.inside.lowest c.deref_mut.result.now ≡ c.args.self.now = rw c.deref_mut.ensures.value c.self.view_is in
    let s : length c.args.self.now ≡ c.self.inside.lowest + length c.deref_mut.result.now = sym (ap length v) ∙ length-above c.self.inside.lowest c.deref_mut.result.now in
    let h = c.requires.few in
    let few : length c.deref_mut.result.now ≤ 4 = omega arith in
    (lit< tt, few)

pub returns : goal.returns
returns g c =
    let n = c.self.inside.lowest in
    let ds = c.deref_mut.result.now in
    let v : above_off n ds ≡ c.args.self.now = rw c.deref_mut.ensures.value c.self.view_is in
    let w : (with_items c.self.inside.kept c.purge.new.caches).items ≡ c.purge.new.caches = with_items_is c.self.inside.kept c.purge.new.caches (c.purge.auto.caches ∙ ap length c.deref_mut.ensures.value ∙ sym c.self.inside.kept.ok.0) in
    let a : entries_of (above_off n c.purge.new.caches) ≡ entries_of c.purge.new.caches = entries-above n c.purge.new.caches in
    record {
      caches = rw (← v, w) (ap (above_off n) c.purge.ensures.caches ∙ sym (purged-above n c.args.radix.now.nodes ds));
      count = rw (← v, w, a, entries-above n ds) c.purge.ensures.count;
    }
