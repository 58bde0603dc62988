use Rattle.xl_cuckoo_walk.proofs.Common.{◌+◌, ◌-◌, ◌∙◌, ◌≡◌, ap, arith, Cached, caches_fenced, fence_answer, is_reached, IsFence, IsRow, Item, Large, Leaf, leaves_of_ways, length, length-map, List, Middle, Order, order_of, parts_by, purged, purged-map, reaches_space, refl, row_state, RowParts, Section, section-fenced, section_in, sections_in, SectionsFresh, size_in, subst, sym, table_fenced, ways_in, ways_of, WayShape, without_items, ℕ}
use Rattle.xl_model.specs.declared.event.Reach.{Reach}
use Rattle.xl_cuckoo_walk.proofs.HoldLemmas.{holds-with-caches, with_caches}
use Rattle.xl_cuckoo_walk.proofs.IndexLemmas.{each-size}
use Rattle.xl_cuckoo_walk.proofs.fence.fence_parts.Given.{Over}
use Rattle.xl_model.specs.declared.address.Order.TheVariants as order
use Rattle.xl_cuckoo_walk.proofs.fence.fence_parts.Goals as goal

-- the sections that a fence leaves, and how many it takes
record IsFenced (to : Reach) (c after : Cached Item) (left : ℕ) : Type 0 where
  sections : sections_in after ≡ without_items (λ s. reaches_space to s.space) (sections_in c)
  count : left + length (without_items (λ s. reaches_space to s.space) (sections_in c)).items ≡ length (sections_in c).items

fenced : (to : Reach) (c after : Cached Item) (left : ℕ) → after ≡ record c { items = purged (is_reached to) c.items } → left + length after.items ≡ length c.items → IsFenced to c after left
fenced to c after left e n =
    let is : sections_in after ≡ without_items (λ s. reaches_space to s.space) (sections_in c) =
    ap sections_in e ∙ ap (λ xs. record { width = c.width; items = xs }) (sym (purged-map section_in (λ s. reaches_space to s.space) (is_reached to) (λ i. refl) c.items)) in
    record {
      sections = is;
      count = ap (λ (z : Cached Section). left + length z.items) (sym is) ∙ ap (λ k. left + k) (length-map after.items section_in) ∙ n ∙ sym (length-map c.items section_in);
    }

fresh : (to : Reach) (size : Order) (leaves : List Leaf) (ways : List WayShape) (c after : Cached Item) (left : ℕ) → IsFenced to c after left → SectionsFresh size leaves ways (sections_in c) → SectionsFresh size leaves ways (sections_in after)
fresh to size leaves ways c after left f old =
    subst (λ z. SectionsFresh size leaves ways z) (sym f.sections) (section-fenced (λ s. reaches_space to s.space) size leaves ways (sections_in c) old)

both-left : (a b x y p q : ℕ) → a + x ≡ p → b + y ≡ q → a + b ≡ (p + q) - (x + y)
both-left a b x y p q e f = omega arith

-- the row after a fence, and the result
record FencedRow (to : Reach) (p after : RowParts) (left : ℕ) : Type 0 where
  row : IsRow after
  fence : IsFence to (row_state p) left (row_state after)

row-fenced : (to : Reach) (p : RowParts) (m2 g1 : Cached Item) (a b : ℕ) → IsRow p
    → m2 ≡ record p.middle.cache { items = purged (is_reached to) p.middle.cache.items } → a + length m2.items ≡ length p.middle.cache.items
    → g1 ≡ record p.large.cache { items = purged (is_reached to) p.large.cache.items } → b + length g1.items ≡ length p.large.cache.items
    → FencedRow to p (with_caches m2 g1 p) (a + b)
unfolding row_state fence_answer table_fenced caches_fenced
row-fenced to p m2 g1 a b r e n f m =
    let x : IsFenced to p.middle.cache m2 a = fenced to p.middle.cache m2 a e n in
    let y : IsFenced to p.large.cache g1 b = fenced to p.large.cache g1 b f m in
    record {
      row = record {
        holds = holds-with-caches m2 g1 p (leaves_of_ways (ways_in p)) r.holds;
        fresh = each-size (λ z. SectionsFresh (order_of z) (leaves_of_ways (ways_in p)) (ways_of (order_of z) (ways_in p)) (sections_in (size_in z (with_caches m2 g1 p)).cache))
            (fresh to order.M2 (leaves_of_ways (ways_in p)) p.tables.m2.ways p.middle.cache m2 a x (r.fresh Middle))
            (fresh to order.G1 (leaves_of_ways (ways_in p)) p.tables.g1.ways p.large.cache g1 b y (r.fresh Large));
      };
      fence = record {
        answer = both-left a b (length (without_items (λ s. reaches_space to s.space) (sections_in p.middle.cache)).items) (length (without_items (λ s. reaches_space to s.space) (sections_in p.large.cache)).items)
            (length (sections_in p.middle.cache).items) (length (sections_in p.large.cache).items) x.count y.count;
        after = rw (x.sections, y.sections) refl;
      };
    }

parts-fenced : (g : Over) (c : goal.After-fence-large g) →
    let s = c.parts.inside in
    FencedRow c.args.reach c.args.parts.now (parts_by s.k4 s.m2 s.g1 s.middle s.large c.fence-middle.new.self c.fence-large.new.self) (c.fence-middle.result + c.fence-large.result)
parts-fenced g c =
    let s = c.parts.inside in
    let after : RowParts = parts_by s.k4 s.m2 s.g1 s.middle s.large c.fence-middle.new.self c.fence-large.new.self in
    subst (λ p. FencedRow c.args.reach p after (c.fence-middle.result + c.fence-large.result)) c.parts.view_is
    (row-fenced c.args.reach (parts_by s.k4 s.m2 s.g1 s.middle s.large s.middle_cache s.large_cache) c.fence-middle.new.self c.fence-large.new.self c.fence-middle.result c.fence-large.result
    (subst IsRow (sym c.parts.view_is) c.requires.whole)
    c.fence-middle.ensures.left c.fence-middle.ensures.count c.fence-large.ensures.left c.fence-large.ensures.count)

pub returns-clause-whole : goal.returns-clause-whole
returns-clause-whole g c = (parts-fenced g c).row

pub returns-clause-fences : goal.returns-clause-fences
returns-clause-fences g c = (parts-fenced g c).fence
