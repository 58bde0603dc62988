use Rattle.xl_nested.proofs.Common.{◌<◌, ◌^◌, ◌≡◌, arith, host_page, host_space, Leaf, leaf_at_page, refl, small_leaf, Some, sym}
use Rattle.xl_nested.proofs.CacheLemmas.{filled-as, leaf-by, leaf-found, miss-after, small-says}
use Rattle.xl_model_lemmas.proofs.MappingLemmas.{found-In}
use Rattle.xl_nested.proofs.HostLemmas.{filled-kept, small-low}
use Rattle.xl_nested.proofs.host.Host.walk.Goals as goal

pub fill_small-requires-clause-small : goal.fill_small-requires-clause-small
fill_small-requires-clause-small c = small-low c.self.invariant c.space_of.result c.page_in.result c.in-Some.word c.in-Some.ensures.leaf

pub invariant_of-self : goal.invariant_of-self
invariant_of-self c =
    let x : Leaf = small_leaf (host_space c.args.guest_page) (host_page c.args.guest_page) c.in-Some.word in
    let there : leaf_at_page (host_space c.args.guest_page) (host_page c.args.guest_page) c.self.inside.stage.leaves ≡ Some x = rw (c.space_of.ensures.value, c.page_in.ensures.value) at c.in-Some.ensures.leaf in
    rw c.in-Some.ensures.after (filled-kept c.self.invariant x _ c.self.inside.cache.width c.fill_small.new.self
    (found-In (host_space c.args.guest_page) (host_page c.args.guest_page) c.self.inside.stage.leaves x there) c.fill_small.ensures.filled)

pub returns-in-Some : goal.returns-in-Some
returns-in-Some c =
    let x : Leaf = small_leaf (host_space c.args.guest_page) (host_page c.args.guest_page) c.in-Some.word in
    let there : leaf_at_page (host_space c.args.guest_page) (host_page c.args.guest_page) c.self.inside.stage.leaves ≡ Some x = rw (c.space_of.ensures.value, c.page_in.ensures.value) at c.in-Some.ensures.leaf in
    let low : c.in-Some.word < 2 ^ 48 = small-low c.self.invariant c.space_of.result c.page_in.result c.in-Some.word c.in-Some.ensures.leaf in
    record {
      word =
          rw (← c.self.view_is)
          (leaf-found (host_page c.args.guest_page) c.in-Some.word x _
          (leaf-by c.args.guest_page (host_space c.args.guest_page) (host_page c.args.guest_page) c.self.inside.stage.leaves (Some x) refl refl (sym there))
          (small-says (host_space c.args.guest_page) (host_page c.args.guest_page) c.in-Some.word));
      after =
          rw (← c.self.view_is) (miss-after c.args.guest_page (host_space c.args.guest_page) (host_page c.args.guest_page) c.self.inside.hits c.self.inside.stage c.walk_small-found.new.self c.self.inside.frames c.fill_small.new.self c.self.inside.cache (Some x)
          refl refl (rw (← c.self.view_is) at c.requires.missed) (sym there) (rw (c.space_of.ensures.value, c.page_in.ensures.value) at c.in-Some.ensures.after)
          (filled-as c.fill_small.new.self c.self.inside.cache x c.fill_small.ensures.width c.fill_small.ensures.filled));
      small = omega arith;
    }
