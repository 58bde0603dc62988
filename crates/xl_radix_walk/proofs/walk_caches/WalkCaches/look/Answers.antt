use Rattle.xl_radix_walk.proofs.Common.{◌+◌, ◌∙◌, ◌≡◌, [], above_off, ap, arith, length, sym, with_items, with_items_is, ℕ}
use Rattle.xl_radix_walk.proofs.AboveLemmas.{after-above, length-above, none-kept, numbered-above, numbered-inside, off-looked, start-above}
use Rattle.xl_radix_walk.proofs.walk_caches.WalkCaches.look.Goals as goal

pub returns-then-is_empty-clause-none : goal.returns-then-is_empty-clause-none
returns-then-is_empty-clause-none c =
    let none = none-kept c.self.inside.kept.len c.self.inside.kept.items c.self.inside.kept.ok.0 (sym c.is_empty.ensures ∙ c.if-is_empty.true) in
    let v : above_off c.self.inside.lowest [] ≡ c.args.self.now = rw (← none) c.self.view_is in
    rw (← v) (off-looked c.self.inside.lowest c.args.space c.args.page).start

pub returns-then-is_empty-clause-caches : goal.returns-then-is_empty-clause-caches
returns-then-is_empty-clause-caches c =
    let none = none-kept c.self.inside.kept.len c.self.inside.kept.items c.self.inside.kept.ok.0 (sym c.is_empty.ensures ∙ c.if-is_empty.true) in
    let v : above_off c.self.inside.lowest [] ≡ c.args.self.now = rw (← none) c.self.view_is in
    rw (← v) (off-looked c.self.inside.lowest c.args.space c.args.page).caches

pub look-requires-clause-levels : goal.look-requires-clause-levels
look-requires-clause-levels c =
    let v : above_off c.self.inside.lowest c.deref_mut.result.now ≡ c.args.self.now = rw c.deref_mut.ensures.value c.self.view_is in
    let s : length c.args.self.now ≡ c.self.inside.lowest + length c.deref_mut.result.now = sym (ap length v) ∙ length-above c.self.inside.lowest c.deref_mut.result.now in
    let h = c.requires.levels in
    omega arith

pub returns : goal.returns
returns c =
    let n = c.self.inside.lowest in
    let ds = c.deref_mut.result.now in
    let v : above_off n ds ≡ c.args.self.now = rw c.deref_mut.ensures.value c.self.view_is in
    let w : (with_items c.self.inside.kept c.look.new.caches).items ≡ c.look.new.caches = with_items_is c.self.inside.kept c.look.new.caches (c.look.auto.caches ∙ ap length c.deref_mut.ensures.value ∙ sym c.self.inside.kept.ok.0) in
    record {
      some = rw (← v, start-above n n 0 c.args.space c.args.page ds (omega arith)) c.look.ensures.some;
      low = rw (← v, length-above n ds) c.look.ensures.low;
      none = rw (← v, start-above n n 0 c.args.space c.args.page ds (omega arith), length-above n ds) c.look.ensures.none;
      caches = rw (← v, w, start-above n n 0 c.args.space c.args.page ds (omega arith)) (after-above n n 0 _ c.args.space c.args.page ds c.look.new.caches (omega arith) c.look.ensures.caches);
      length = rw (← v, w) (length-above n c.look.new.caches ∙ ap (λ (k : ℕ). n + k) c.look.ensures.length ∙ sym (length-above n ds));
      number = λ nodes all. c.look.ensures.number nodes (numbered-inside n n 0 nodes ds (omega arith) (rw v all));
      kept = rw w (λ nodes all. numbered-above n n 0 nodes c.look.new.caches (omega arith) (c.look.ensures.kept nodes (numbered-inside n n 0 nodes ds (omega arith) (rw v all))));
    }
