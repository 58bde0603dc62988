use Rattle.xl_chain.proofs.Common.{◌+◌, ◌-◌, ◌≡◌, ap, arith, ended, IsLinked, refl, search_back, Searched, Seek, slice_index, subst, sym, ℕ}
use Rattle.xl_chain.proofs.OwnLemmas.{led, own-goes, own-here}
use Rattle.xl_chain.proofs.SearchLemmas.{back-head, exit-none, said-end}
use Rattle.xl_chain.proofs.own.search.Goals as goal

said-loads : (x : Searched) (n : ℕ) (r : Seek) → x ≡ ended n r → n ≡ x.loads
said-loads x n r e = sym (ap (λ (y : Searched). y.loads) e)

pub along-init : goal.along-init
along-init g c =
    let a = c.args in
    let b = c.bucket_of.result in
    let t = c.requires.linked in
    let one : a.shape.entries + 1 - 1 ≡ a.shape.entries = omega arith in
    let size = t.size in
    let below = c.bucket_of.ensures.below in
    record {
      linked = rw one (t.each b below);
      few = (omega arith, omega arith);
      rest = rw one (back-head a.words.now a.shape a.tag b (slice_index a.words.now b) c.bucket_of.ensures.is (omega arith) refl);
    }

pub led_to-base-requires-clause-inside : goal.led_to-base-requires-clause-inside
led_to-base-requires-clause-inside g c =
    (led c.args.shape c.args.words.now c.along.at (c.args.shape.entries + 1 - c.along.loads) c.along.invariant.linked c.along-test.true).inside

pub returns-then-words-base : goal.returns-then-words-base
returns-then-words-base g c =
    let a = c.args in
    let l = c.along in
    let d = led a.shape a.words.now l.at (a.shape.entries + 1 - l.loads) l.invariant.linked c.along-test.true in
    let some = d.some in
    let e = own-here a.shape a.words.now a.tag l.loads l.at c.led_to-base.result c.requires.linked (omega arith) (omega arith) d.inside c.led_to-base.ensures.base
    (search_back a.words.now a.shape a.tag) l.invariant.rest c.if-words-base.true in
    record { end = said-end _ (l.loads + 1) _ e; loads = said-loads _ (l.loads + 1) _ e }

pub along-preserved : goal.along-preserved
along-preserved g c =
    let a = c.args in
    let l = c.along in
    let d = led a.shape a.words.now l.at (a.shape.entries + 1 - l.loads) l.invariant.linked c.along-test.true in
    let some = d.some in
    let left : a.shape.entries + 1 - l.loads - 1 ≡ a.shape.entries + 1 - (l.loads + 1) = omega arith in
    let next : IsLinked a.shape a.words.now (slice_index a.words.now (c.led_to-base.result + 1)) (a.shape.entries + 1 - l.loads - 1) =
    subst (λ p. IsLinked a.shape a.words.now (slice_index a.words.now (p + 1)) (a.shape.entries + 1 - l.loads - 1)) (sym c.led_to-base.ensures.base) d.rest in
    record {
      linked = subst (IsLinked a.shape a.words.now (slice_index a.words.now (c.led_to-base.result + 1))) left next;
      few = (omega arith, omega arith);
      rest = own-goes a.shape a.words.now a.tag l.loads l.at c.led_to-base.result c.requires.linked (omega arith) (omega arith) d.inside c.led_to-base.ensures.base
          (search_back a.words.now a.shape a.tag) l.invariant.rest c.if-words-base.false;
    }

pub returns : goal.returns
returns g c =
    let a = c.args in
    let l = c.along in
    let e = exit-none (search_back a.words.now a.shape a.tag) l.loads (a.shape.entries + 1 - l.loads) a.words.now a.shape l.at a.tag l.invariant.rest c.along-test.false in
    record { end = said-end _ l.loads _ e; loads = said-loads _ l.loads _ e }
