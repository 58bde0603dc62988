use Rattle.xl_radix_walk.proofs.Common.{◌+◌, ◌∙◌, ◌≡◌, arith, find, has_tag, length, None, rules, Some, sym, tag_at, touched}
use Rattle.xl_radix_walk.proofs.LookLemmas.{Hit, hit, Miss, miss}
use Rattle.xl_radix_walk.proofs.caches.+look.Goals as goal

pub returns-in-Some-touch_tag : goal.returns-in-Some-touch_tag
returns-in-Some-touch_tag t c =
    let e = c.in-Some.ensures.cases.0 in
    let found : find (has_tag (tag_at c.args.space c.args.level c.args.page)) c.in-Some.first.now.items ≡ Some c.in-Some-touch_tag.item = rw (← c.tag_of.ensures) (sym c.touch_tag.ensures.touched.found ∙ c.in-Some-touch_tag.is) in
    let moved : c.touch_tag.new.cache.items ≡ touched (has_tag (tag_at c.args.space c.args.level c.args.page)) c.in-Some.first.now.items = rw (← c.tag_of.ensures) c.touch_tag.ensures.touched.moved in
    let h : Hit c.args.level c.args.space c.args.page c.in-Some-touch_tag.item c.in-Some.first.now c.touch_tag.new.cache c.in-Some.rest.now = hit c.args.level c.args.space c.args.page c.in-Some-touch_tag.item c.in-Some.first.now c.touch_tag.new.cache c.in-Some.rest.now c.requires.page found moved c.touch_tag.ensures.width in
    record {
      some = rw e h.some;
      low = search rules;
      none = search rules;
      caches = rw e h.caches;
      length = search rules;
      number = rw e h.number;
      kept = rw e h.kept;
    }

pub returns-in-None : goal.returns-in-None
returns-in-None t c =
    let e = c.in-Some.ensures.cases.0 in
    let found : find (has_tag (tag_at c.args.space c.args.level c.args.page)) c.in-Some.first.now.items ≡ None = rw (← c.tag_of.ensures) (sym c.touch_tag.ensures.touched.found ∙ c.in-None.is) in
    let moved : c.touch_tag.new.cache.items ≡ touched (has_tag (tag_at c.args.space c.args.level c.args.page)) c.in-Some.first.now.items = rw (← c.tag_of.ensures) c.touch_tag.ensures.touched.moved in
    let h : Miss c.args.level c.args.space c.args.page c.in-Some.first.now c.touch_tag.new.cache c.in-Some.rest.now = miss c.args.level c.args.space c.args.page c.in-Some.first.now c.touch_tag.new.cache c.in-Some.rest.now c.requires.page found moved c.touch_tag.ensures.width in
    let k : c.args.level + length c.args.caches.now ≡ c.args.level + 1 + length c.in-Some.rest.now = let d = c.in-Some.ensures.cases.1 in omega arith in
    record {
      some = rw (e, h.start) c.look.ensures.some;
      low = search rules;
      none = rw (k, e, h.start) c.look.ensures.none;
      caches = rw e (h.caches c.look.new.caches c.look.ensures.caches);
      length = search rules;
      number = λ nodes all. c.look.ensures.number nodes (rw e at all).1;
      kept = λ nodes all. let f = rw e at all in h.kept nodes c.look.new.caches f (c.look.ensures.kept nodes f.1);
    }
