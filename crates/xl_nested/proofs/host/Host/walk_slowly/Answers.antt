use Rattle.xl_nested.proofs.Common.{host_page, None, refl, Some, sym}
use Rattle.xl_nested.proofs.CacheLemmas.{filled-as, leaf-by, leaf-found, miss-after, nothing-found}
use Rattle.xl_model_lemmas.proofs.MappingLemmas.{found-In}
use Rattle.xl_nested.proofs.HostLemmas.{filled-kept, keepable, loaded-kept, walked-for}
use Rattle.xl_nested.proofs.host.Host.walk_slowly.Goals as goal

pub invariant_of-self : goal.invariant_of-self
invariant_of-self c = rw c.in_err-leaf.ensures.after (loaded-kept c.self.invariant _)

pub returns-in_err-leaf-clause-word : goal.returns-in_err-leaf-clause-word
returns-in_err-leaf-clause-word c =
    rw (c.from_residual.ensures, ← c.self.view_is)
    (nothing-found (host_page c.args.guest_page) _
    (leaf-by c.args.guest_page c.space_of.result c.page_in-page.result c.self.inside.stage.leaves None c.space_of.ensures.value c.page_in-page.ensures.value c.in_err-leaf.ensures.leaf))

pub returns-in_err-leaf-clause-after : goal.returns-in_err-leaf-clause-after
returns-in_err-leaf-clause-after c =
    rw (← c.self.view_is) (miss-after c.args.guest_page c.space_of.result c.page_in-page.result c.self.inside.hits c.self.inside.stage c.walk.new.self c.self.inside.frames c.self.inside.cache c.self.inside.cache None
    c.space_of.ensures.value c.page_in-page.ensures.value (rw (← c.self.view_is) at c.requires.missed) c.in_err-leaf.ensures.leaf c.in_err-leaf.ensures.after refl)

pub fill-requires : goal.fill-requires
fill-requires c =
    keepable c.self.invariant c.in_ok-leaf.leaf (found-In c.space_of.result c.page_in-page.result c.self.inside.stage.leaves c.in_ok-leaf.leaf (sym c.in_ok-leaf.ensures.leaf))

pub word_in-requires : goal.word_in-requires
word_in-requires c = walked-for c.self.invariant c.space_of.result c.page_in-page.result c.in_ok-leaf.leaf (sym c.in_ok-leaf.ensures.leaf)

pub invariant_of-self-2 : goal.invariant_of-self-2
invariant_of-self-2 c =
    rw c.in_ok-leaf.ensures.after (filled-kept c.self.invariant c.in_ok-leaf.leaf _ c.self.inside.cache.width c.fill.new.self
    (found-In c.space_of.result c.page_in-page.result c.self.inside.stage.leaves c.in_ok-leaf.leaf (sym c.in_ok-leaf.ensures.leaf)) c.fill.ensures.filled)

pub returns-clause-word : goal.returns-clause-word
returns-clause-word c =
    rw (← c.self.view_is)
    (leaf-found (host_page c.args.guest_page) c.word_in.result c.in_ok-leaf.leaf _
    (leaf-by c.args.guest_page c.space_of.result c.page_in-page.result c.self.inside.stage.leaves (Some c.in_ok-leaf.leaf) c.space_of.ensures.value c.page_in-page.ensures.value c.in_ok-leaf.ensures.leaf)
    (rw c.page_in-page.ensures.value at c.word_in.ensures.says))

pub returns-clause-after : goal.returns-clause-after
returns-clause-after c =
    rw (← c.self.view_is) (miss-after c.args.guest_page c.space_of.result c.page_in-page.result c.self.inside.hits c.self.inside.stage c.walk.new.self c.self.inside.frames c.fill.new.self c.self.inside.cache (Some c.in_ok-leaf.leaf)
    c.space_of.ensures.value c.page_in-page.ensures.value (rw (← c.self.view_is) at c.requires.missed) c.in_ok-leaf.ensures.leaf c.in_ok-leaf.ensures.after
    (filled-as c.fill.new.self c.self.inside.cache c.in_ok-leaf.leaf c.fill.ensures.width c.fill.ensures.filled))
