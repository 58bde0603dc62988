use Rattle.xl_lackey.proofs.Common.{◌++◌, ◌+◌, ◌-◌, ◌<◌, ◌∙◌, ◌∷◌, ◌≡◌, [], Access, ap, arith, IsRecordLine, IsSure, length, length-set, length-take, List, Runs, set, subst, sym, take, take_more_set, take_rest, ℕ}
use Rattle.xl_lackey.proofs.SkimLemmas.{runs_more, runs_none, sure_less}
use Rattle.xl_lackey.proofs.skim.skim_kept.Goals as goal

pub kept-init : goal.kept-init
kept-init c =
    let text = c.args.text.now in
    let slots = c.args.slots.now in
    let first : List Access = take c.args.len slots in
    let same : first ≡ take (c.args.len + 0) slots = ap (λ (k : ℕ). take k slots) (omega arith) in record {
      runs = subst (λ (xs : List Access). Runs text first xs (record { used = 0; taken = 0 })) same (runs_none text first);
      places = c.requires.places;
      few = omega arith;
      sure = subst (λ (xs : List Access). IsSure (c.args.most - 0) (length text - 0) xs) same
          (record { text = omega (arith, c.requires.sure.text); room = omega (arith, c.requires.sure.room) });
    }

pub kept-preserved : goal.kept-preserved
kept-preserved c =
    let text = c.args.text.now in
    let first : List Access = take c.args.len c.args.slots.now in
    let access = c.in-Some.access in
    let count = c.in-Some.count in
    let used = c.kept.used in
    let taken = c.kept.taken in
    let at : ℕ = c.args.len + taken in
    let slots = c.kept.slots in
    let sure = c.kept.invariant.sure in
    let within : at < length slots = omega (arith, sure.room, length-take at slots, c.kept.invariant.places, c.kept-test.true) in
    let grown : take at slots ++ access ∷ [] ≡ take (c.args.len + (taken + 1)) c.put.new.slots =
    sym (take_more_set slots at access within) ∙ ap (λ (k : ℕ). take k (set slots at access)) (omega arith)
    ∙ sym (ap (take (c.args.len + (taken + 1))) c.put.ensures) in
    let line = subst (λ (t : List ℕ). IsRecordLine t count (access ∷ [])) (take_rest text used) c.in-Some.ensures.record in record {
      runs = subst (λ (xs : List Access). Runs text first xs (record { used = used + count; taken = taken + 1 })) grown
          (runs_more text first (take at slots) (access ∷ []) (record { used = used; taken = taken }) count c.kept.invariant.runs line);
      places = ap length c.put.ensures ∙ length-set slots at access ∙ c.kept.invariant.places;
      few = omega (arith, c.kept-test.true);
      sure = subst (λ (xs : List Access). IsSure (c.args.most - (taken + 1)) (length text - (used + count)) xs) grown
          (sure_less (c.args.most - (taken + 1)) (c.args.most - taken) (length text - (used + count)) (length text - used) count (take at slots) access
          sure (omega (arith, c.kept-test.true)) c.in-Some.ensures.few (omega (arith, sure.text, c.kept-test.true, c.in-Some.ensures.few)));
    }
