use Rattle.xl_cuckoo.proofs.Common.{◌∙◌, ap, CuckooState, displaced, length, loaded, map, plus, sym}
use Rattle.xl_cuckoo.proofs.TableLemmas.{state_of}
use Rattle.xl_cuckoo.proofs.cuckoo.Cuckoo.count_probe.Goals as goal

pub returns : goal.returns
returns g c =
    let s = c.self.inside in
    ap (λ n. state_of s.rules.threshold s.rules.kick_limit s.rules.migrate s.ways.items (map displaced s.moved.items) (plus s.loads n)) (sym c.self.invariant.width)
    ∙ ap (λ (t : CuckooState). loaded (length t.ways) t) c.self.view_is
