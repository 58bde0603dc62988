use Rattle.xl_chain.proofs.Common.{◌∙◌, ◌≡◌, ap, ChainState, has_tag, lit<, None, place_at, Some, subst, sym, tag_place, tags_of, true, ℕ}
use Rattle.xl_chain.proofs.RemovalLemmas.{found-place}
use Rattle.xl_chain.proofs.entries.Entries.remove.Goals as goal

pub unreachable-requires : goal.unreachable-requires
unreachable-requires g c =
    let s = c.self.inside in
    let H : ChainState → Type 0 = λ v. has_tag (tags_of v.held) c.args.tag ≡ true in
    let f = found-place s.shape s.words.items s.free.items c.args.tag c.bucket_of-bucket.result c.self.invariant.0 c.bucket_of-bucket.ensures.is (subst H (sym c.self.view_is) c.requires) in
    let k : None ≡ Some f.0 = sym c.in-None.is ∙ c.place_of.ensures ∙ ap (λ ws. tag_place ws s.shape c.bucket_of-bucket.result c.args.tag) c.deref.ensures.value ∙ f.1 in
    cc

pub remove_at-requires : goal.remove_at-requires
remove_at-requires g c =
    let s = c.self.inside in
    let P : ℕ → Type 0 = λ b. tag_place s.words.items s.shape b c.args.tag ≡ Some c.in-Some.place in
    let k = subst P c.bucket_of-bucket.ensures.is (sym (c.place_of.ensures ∙ ap (λ ws. tag_place ws s.shape c.bucket_of-bucket.result c.args.tag) c.deref.ensures.value) ∙ c.in-Some.is) in
    (lit< tt, record { tag = c.args.tag; is = subst (λ (v : ChainState). place_at v c.args.tag ≡ Some c.in-Some.place) c.self.view_is k })
