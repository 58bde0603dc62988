use Rattle.xl_treap.proofs.Common.{◌+◌, ◌-◌, ◌∙◌, ◌≡◌, ap, arith, None, refl, search_from, Some}
use Rattle.xl_treap.proofs.SeekLemmas.{exit-long, exit-none, loaded-more, more-loads, none-before, rest-visit, said-bus, said-end}
use Rattle.xl_treap.specs.declared.along.Search.TheVariants as search_end
use Rattle.xl_treap.specs.declared.along.Visit.TheVariants as visit
use Rattle.xl_treap.proofs.along.seek.Goals as goal

pub along-init : goal.along-init
along-init g c =
    let e : c.args.nodes - 0 ≡ c.args.nodes = omega arith in
    record { words = refl; bus = refl; rest = rw e (none-before (search_from c.args.nodes (g.B.Bus.words c.args.bus.now) c.args.root c.args.key)) }

pub returns-then-at-eq0-clause-end : goal.returns-then-at-eq0-clause-end
returns-then-at-eq0-clause-end g c =
    said-end _ c.along.i search_end.Absent (exit-none _ c.along.i (c.args.nodes - c.along.i) (g.B.Bus.words c.args.bus.now) c.along.at c.args.key c.along.invariant.rest c.if-at-eq0.true)

pub returns-then-at-eq0-clause-bus : goal.returns-then-at-eq0-clause-bus
returns-then-at-eq0-clause-bus g c =
    said-bus g.B.Bus.loaded _ c.along.i search_end.Absent _ c.args.bus.now (exit-none _ c.along.i (c.args.nodes - c.along.i) (g.B.Bus.words c.args.bus.now) c.along.at c.args.key c.along.invariant.rest c.if-at-eq0.true) c.along.invariant.bus

pub returns-in-Gone-clause-end : goal.returns-in-Gone-clause-end
returns-in-Gone-clause-end g c =
    said-end _ (c.along.i + 1) search_end.OutOfBus (rest-visit _ c.args.nodes c.along.i (g.B.Bus.words c.args.bus.now) (g.B.Bus.words c.along.bus) c.along.at (c.along.at - 1) c.args.key c.examine.result visit.Gone c.along.invariant.rest c.along-test.true (omega arith) c.examine.ensures.visit c.along.invariant.words c.in-Gone.is)

pub returns-in-Gone-clause-bus : goal.returns-in-Gone-clause-bus
returns-in-Gone-clause-bus g c =
    said-bus g.B.Bus.loaded _ (c.along.i + 1) search_end.OutOfBus _ c.args.bus.now (rest-visit _ c.args.nodes c.along.i (g.B.Bus.words c.args.bus.now) (g.B.Bus.words c.along.bus) c.along.at (c.along.at - 1) c.args.key c.examine.result visit.Gone c.along.invariant.rest c.along-test.true (omega arith) c.examine.ensures.visit c.along.invariant.words c.in-Gone.is) (c.examine.ensures.bus ∙ ap g.B.Bus.loaded c.along.invariant.bus ∙ loaded-more g.B.Bus.loaded c.along.i c.args.bus.now)

pub returns-in-Here-None-clause-end : goal.returns-in-Here-None-clause-end
returns-in-Here-None-clause-end g c =
    said-end _ (c.along.i + 1) search_end.Absent (rest-visit _ c.args.nodes c.along.i (g.B.Bus.words c.args.bus.now) (g.B.Bus.words c.along.bus) c.along.at (c.along.at - 1) c.args.key c.examine.result (visit.Here None) c.along.invariant.rest c.along-test.true (omega arith) c.examine.ensures.visit c.along.invariant.words (c.in-Here-None.is ∙ ap visit.Here c.in-Here-None.field-0-is))

pub returns-in-Here-None-clause-bus : goal.returns-in-Here-None-clause-bus
returns-in-Here-None-clause-bus g c =
    said-bus g.B.Bus.loaded _ (c.along.i + 1) search_end.Absent _ c.args.bus.now (rest-visit _ c.args.nodes c.along.i (g.B.Bus.words c.args.bus.now) (g.B.Bus.words c.along.bus) c.along.at (c.along.at - 1) c.args.key c.examine.result (visit.Here None) c.along.invariant.rest c.along-test.true (omega arith) c.examine.ensures.visit c.along.invariant.words (c.in-Here-None.is ∙ ap visit.Here c.in-Here-None.field-0-is)) (c.examine.ensures.bus ∙ ap g.B.Bus.loaded c.along.invariant.bus ∙ loaded-more g.B.Bus.loaded c.along.i c.args.bus.now)

pub returns-in-Here-Some-clause-end : goal.returns-in-Here-Some-clause-end
returns-in-Here-Some-clause-end g c =
    said-end _ (c.along.i + 1) (search_end.Found c.in-Here-Some.range) (rest-visit _ c.args.nodes c.along.i (g.B.Bus.words c.args.bus.now) (g.B.Bus.words c.along.bus) c.along.at (c.along.at - 1) c.args.key c.examine.result (visit.Here (Some c.in-Here-Some.range)) c.along.invariant.rest c.along-test.true (omega arith) c.examine.ensures.visit c.along.invariant.words (c.in-Here-Some.is ∙ ap visit.Here c.in-Here-Some.field-0-is))

pub returns-in-Here-Some-clause-bus : goal.returns-in-Here-Some-clause-bus
returns-in-Here-Some-clause-bus g c =
    said-bus g.B.Bus.loaded _ (c.along.i + 1) (search_end.Found c.in-Here-Some.range) _ c.args.bus.now (rest-visit _ c.args.nodes c.along.i (g.B.Bus.words c.args.bus.now) (g.B.Bus.words c.along.bus) c.along.at (c.along.at - 1) c.args.key c.examine.result (visit.Here (Some c.in-Here-Some.range)) c.along.invariant.rest c.along-test.true (omega arith) c.examine.ensures.visit c.along.invariant.words (c.in-Here-Some.is ∙ ap visit.Here c.in-Here-Some.field-0-is)) (c.examine.ensures.bus ∙ ap g.B.Bus.loaded c.along.invariant.bus ∙ loaded-more g.B.Bus.loaded c.along.i c.args.bus.now)

pub along-preserved : goal.along-preserved
along-preserved g c = record {
  words = ap g.B.Bus.words c.examine.ensures.bus ∙ g.met.B.Bus.words_stay c.along.bus ∙ c.along.invariant.words;
  bus = (c.examine.ensures.bus ∙ ap g.B.Bus.loaded c.along.invariant.bus ∙ loaded-more g.B.Bus.loaded c.along.i c.args.bus.now);
  rest = (rest-visit _ c.args.nodes c.along.i (g.B.Bus.words c.args.bus.now) (g.B.Bus.words c.along.bus) c.along.at (c.along.at - 1) c.args.key c.examine.result (visit.Goes c.in-Goes.next) c.along.invariant.rest c.along-test.true (omega arith) c.examine.ensures.visit c.along.invariant.words c.in-Goes.is) ∙ more-loads c.along.i 1 (search_from (c.args.nodes - (c.along.i + 1)) (g.B.Bus.words c.args.bus.now) c.in-Goes.next c.args.key);
}

pub returns-then-at-eq0-2-clause-end : goal.returns-then-at-eq0-2-clause-end
returns-then-at-eq0-2-clause-end g c =
    said-end _ c.along.i search_end.Absent (exit-none _ c.along.i (c.args.nodes - c.along.i) (g.B.Bus.words c.args.bus.now) c.along.at c.args.key c.along.invariant.rest c.if-at-eq0-2.true)

pub returns-then-at-eq0-2-clause-bus : goal.returns-then-at-eq0-2-clause-bus
returns-then-at-eq0-2-clause-bus g c =
    said-bus g.B.Bus.loaded _ c.along.i search_end.Absent _ c.args.bus.now (exit-none _ c.along.i (c.args.nodes - c.along.i) (g.B.Bus.words c.args.bus.now) c.along.at c.args.key c.along.invariant.rest c.if-at-eq0-2.true) c.along.invariant.bus

pub returns-else-at-eq0-2-clause-end : goal.returns-else-at-eq0-2-clause-end
returns-else-at-eq0-2-clause-end g c =
    said-end _ c.along.i search_end.TooLong (exit-long _ c.along.i (c.args.nodes - c.along.i) (g.B.Bus.words c.args.bus.now) c.along.at c.args.key c.along.invariant.rest (omega arith) (omega arith))

pub returns-else-at-eq0-2-clause-bus : goal.returns-else-at-eq0-2-clause-bus
returns-else-at-eq0-2-clause-bus g c =
    said-bus g.B.Bus.loaded _ c.along.i search_end.TooLong _ c.args.bus.now (exit-long _ c.along.i (c.args.nodes - c.along.i) (g.B.Bus.words c.args.bus.now) c.along.at c.args.key c.along.invariant.rest (omega arith) (omega arith)) c.along.invariant.bus
