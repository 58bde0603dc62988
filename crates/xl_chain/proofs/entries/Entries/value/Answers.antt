use Rattle.xl_chain.proofs.Common.{◌*◌, ◌+◌, ◌<◌, ◌∙◌, ◌≡◌, ap, arith, ChainShape, ChainState, get_or_read_under, is_entry, IsTable, length, List, list_any, place_of_value, refl, slice_index, subst, sym, true, value_of, ℕ}
use Rattle.xl_chain.proofs.LineLemmas.{value-read}
use Rattle.xl_chain.proofs.PlaceLemmas.{base_past}
use Rattle.xl_chain.proofs.ValueLemmas.{held-inside, place-in}
use Rattle.xl_chain.proofs.entries.Entries.value.Goals as goal

pub value_at-requires-clause-entry : goal.value_at-requires-clause-entry
value_at-requires-clause-entry g c =
    let s = c.self.inside in
    held-inside s.shape s.words.items s.free.items c.args.entry c.self.invariant.0 (subst (λ (v : ChainState). list_any (is_entry c.args.entry) v.held ≡ true) (sym c.self.view_is) c.requires.held)

-- the word is there
inside-words : (s : ChainShape) (words free : List ℕ) (e i at : ℕ) → IsTable s words free → e < s.entries → i + 3 < 4 * s.lines → at ≡ place_of_value s e i → at < length words
inside-words s words free e i at t inside within is =
    let p = place-in s e i within in
    let past = base_past s e s.entries inside in
    let size = t.size in
    omega (arith, p.1)

pub index-requires : goal.index-requires
index-requires g c =
    let s = c.self.inside in
    let t = c.self.invariant.0 in
    let inside = held-inside s.shape s.words.items s.free.items c.args.entry t (subst (λ (v : ChainState). list_any (is_entry c.args.entry) v.held ≡ true) (sym c.self.view_is) c.requires.held) in
    let within : c.args.i + 3 < 4 * s.shape.lines = (let k = c.requires.within in let l = c.self.invariant.1 in omega arith) in
    let l = inside-words s.shape s.words.items s.free.items c.args.entry c.args.i c.value_at.result t inside within c.value_at.ensures in
    let ok = s.words.ok.0 in
    omega arith

pub returns : goal.returns
returns g c =
    let s = c.self.inside in
    let t = c.self.invariant.0 in
    let H : ChainState → Type 0 = λ v. list_any (is_entry c.args.entry) v.held ≡ true in
    let held = subst H (sym c.self.view_is) c.requires.held in
    let inside = held-inside s.shape s.words.items s.free.items c.args.entry t held in
    let within : c.args.i + 3 < 4 * s.shape.lines = (let k = c.requires.within in let l = c.self.invariant.1 in omega arith) in
    let l = inside-words s.shape s.words.items s.free.items c.args.entry c.args.i c.value_at.result t inside within c.value_at.ensures in
    get_or_read_under s.words.items c.value_at.result (length s.words.items) c.index.result.now 0 c.index.ensures l refl
    ∙ ap (slice_index s.words.items) c.value_at.ensures
    ∙ value-read s.shape s.words.items s.free.items c.args.entry c.args.i t held within
    ∙ ap (λ (v : ChainState). value_of c.args.entry c.args.i v.held) c.self.view_is
