use Rattle.xl_lackey.proofs.Common.{◌++◌, ◌-◌, ◌∙◌, ◌≡◌, ap, append_assoc, arith, drop, left_by, length, lines_by, List, State, take, unless_bad, ℕ}
use Rattle.xl_lackey.proofs.StepLemmas.{part_length, put_after}
use Rattle.xl_lackey.proofs.reader.Reader.exchange.Goals as goal

pub returns-clause-held : goal.returns-clause-held
returns-clause-held c =
    let t = c.self.inside in
    let piece = c.args.piece.now in
    let held : List ℕ = drop t.start (take t.end t.buf.items) in
    let len : length held ≡ t.end - t.start = part_length t.start t.end t.buf.items (omega (arith, t.buf.ok.0, c.self.invariant.0, c.self.invariant.2)) in
    let is : c.put_first.new.buf ≡ held ++ drop (length held) piece.items = rw (c.held.ensures.value, ← c.self.view_is, c.as_mut_slice.ensures.value) at c.put_first.ensures in
    let fits = rw (← c.self.view_is) at c.requires.room in
    let after = put_after piece.len c.args.count held piece.items c.put_first.new.buf is (omega (arith, piece.ok.0)) (omega (arith, fits, c.requires.size)) in
    rw (← c.self.view_is, c.swap.ensures.x_after, ← len) (ap (λ (h : List ℕ). record { lines = t.lines; held = h; finished = t.finished; bad = t.bad }) after)

pub returns-clause-reads : goal.returns-clause-reads
returns-clause-reads c last rest =
    let old = c.args.self.now in
    let part : List ℕ = take c.args.count (drop (length old.held) c.args.piece.now.items) in
    ap (λ (s : State). left_by last s rest) (returns-clause-held c)
    ∙ ap (λ (bs : List ℕ). unless_bad old.bad old.lines (lines_by last bs)) (append_assoc old.held part rest)
