use Rattle.xl_chain.proofs.Common.{◌++◌, ◌+◌, ◌∙◌, ◌∷◌, ◌≡◌, [], ap, arith, bucket_of, ChainState, held_of, IsPast, IsPlace, IsTable, IsTaken, Leads, length, length-set, List, place_at, refl, seen_in, Some, subst, sym, with_items, with_items_is, ℕ}
use Rattle.xl_chain.proofs.MovedLemmas.{taken}
use Rattle.xl_chain.proofs.RemovalLemmas.{gone, Removed}
use Rattle.xl_chain.proofs.SpotLemmas.{leads-at, one-held}
use Rattle.xl_chain.proofs.entries.Entries.remove_at.Given.{Over}
use Rattle.xl_chain.proofs.entries.Entries.remove_at.Goals.{After-self, After-unlink-entry}
use Rattle.xl_chain.proofs.entries.Entries.remove_at.Goals as goal

place : (g : Over) (c : After-self g) → IsPlace (seen_in c.self.inside.shape c.self.inside.words.items c.self.inside.loads) c.args.place
place g c = subst (λ (v : ChainState). IsPlace v c.args.place) (sym c.self.view_is) c.requires

-- what the unlinking left
past : (g : Over) (c : After-unlink-entry g) → IsPast c.self.inside.shape c.self.inside.words.items c.unlink-entry.new.words c.args.place c.unlink-entry.result
past g c =
    subst (λ (ws : List ℕ). IsPast c.self.inside.shape ws c.unlink-entry.new.words c.args.place c.unlink-entry.result) c.deref_mut.ensures.value c.unlink-entry.ensures

words : (g : Over) (c : After-unlink-entry g) → (with_items c.self.inside.words c.unlink-entry.new.words).items ≡ c.unlink-entry.new.words
words g c =
    with_items_is c.self.inside.words c.unlink-entry.new.words
    (ap (λ (ws : List ℕ). length ws) (past g c).now ∙ length-set c.self.inside.words.items c.args.place _ ∙ sym c.self.inside.words.ok.0)

done : (g : Over) (c : After-unlink-entry g) (k : IsPlace (seen_in c.self.inside.shape c.self.inside.words.items c.self.inside.loads) c.args.place)
    → Removed c.self.inside.shape c.self.inside.words.items c.unlink-entry.new.words c.self.inside.free.items k.tag (bucket_of c.self.inside.shape.buckets k.tag) c.unlink-entry.result
done g c k =
    let s = c.self.inside in
    gone s.shape s.words.items c.unlink-entry.new.words s.free.items k.tag (bucket_of s.shape.buckets k.tag) c.args.place c.unlink-entry.result c.self.invariant.0 refl k.is (past g c)

pub unlink-entry-requires-clause-leads : goal.unlink-entry-requires-clause-leads
unlink-entry-requires-clause-leads g c =
    let s = c.self.inside in
    let k = place g (goal.at.unlink-entry-requires-clause-leads g c).After-self in
    subst (λ (ws : List ℕ). Leads s.shape ws c.args.place) (sym c.deref_mut.ensures.value) (leads-at s.shape s.words.items s.free.items k.tag c.args.place c.self.invariant.0 k.is)

pub invariant_of-self : goal.invariant_of-self
invariant_of-self g c =
    let s = c.self.inside in
    let p = goal.at.invariant_of-self g c in
    let a = p.After-unlink-entry in
    let F : List ℕ → Type 0 = λ fs. IsTable s.shape (with_items s.words c.unlink-entry.new.words).items fs in (
      subst F (sym c.in-Ok.ensures.items) (subst (λ (ws : List ℕ). IsTable s.shape ws (s.free.items ++ c.unlink-entry.result ∷ [])) (sym (words g a)) (done g a (place g p.After-self)).table),
      c.self.invariant.1,
      (let q = c.in-Ok.ensures.capacity in let l = c.self.invariant.2 in omega arith),
    )

pub returns-clause-taken : goal.returns-clause-taken
returns-clause-taken g c =
    let s = c.self.inside in
    let a = (goal.at.returns-clause-taken g c).After-unlink-entry in
    let N : List ℕ = c.unlink-entry.new.words in
    subst (λ (v : ChainState). (u : ℕ) → place_at v u ≡ Some c.args.place → IsTaken u c.args.place v (seen_in s.shape (with_items s.words N).items s.loads)) c.self.view_is (λ u k.
    let T : List ℕ → Type 0 = λ ws. IsTaken u c.args.place (seen_in s.shape s.words.items s.loads) (seen_in s.shape ws s.loads) in
    subst T (sym (words g a)) (taken s.shape s.words.items N s.free.items u c.args.place c.unlink-entry.result s.loads c.self.invariant.0 k (past g a)))

pub returns-clause-fewer : goal.returns-clause-fewer
returns-clause-fewer g c =
    let s = c.self.inside in
    let p = goal.at.returns-clause-fewer g c in
    let a = p.After-unlink-entry in
    let one : length (held_of s.shape c.unlink-entry.new.words) + 1 ≡ length (held_of s.shape s.words.items) = (let f = (done g a (place g p.After-self)).fewer in omega arith) in
    ap (λ ws. length (held_of s.shape ws) + 1) (words g a) ∙ one ∙ ap (λ (v : ChainState). length v.held) c.self.view_is

pub unreachable-requires : goal.unreachable-requires
unreachable-requires g c =
    let s = c.self.inside in
    let t : IsTable s.shape s.words.items s.free.items = c.self.invariant.0 in
    let k = place g (goal.at.unreachable-requires g c).After-self in
    let some = one-held s.shape s.words.items s.free.items k.tag c.args.place t k.is in
    let count = t.count in
    let free = s.free.ok.0 in
    let full = c.in-Err.ensures.full in
    let room = c.self.invariant.2 in
    omega arith
