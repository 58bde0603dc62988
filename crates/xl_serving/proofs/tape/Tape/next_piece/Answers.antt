use Rattle.xl_serving.proofs.Common.{FeedsOf, file_of, Fills, IsFedFrom, known_one}
use Rattle.xl_serving.proofs.PieceLemmas.{fills_on, fills_to_end}
use Rattle.xl_serving.proofs.tape.Tape.next_piece.Goals as goal

pub returns-then-count-eq0-clause-known : goal.returns-then-count-eq0-clause-known
returns-then-count-eq0-clause-known g c =
    let old = c.args.self.now in
    let mid = c.pull.new.self in
    let new = c.finish.new.self in
    let name = c.args.name.now in
    let n = c.in_ok-count.count in
    let fed = c.in_ok-count.ensures in
    known_one (g.F.Folder.folder.files c.args.folder.now) (λ fs. FeedsOf (file_of fs name) old.at n old.reader mid.reader)
    (λ fs. IsFedFrom (file_of fs name) old → Fills (file_of fs name) old new) fed.known
    (λ fs k h. fills_to_end (file_of fs name) n old mid new h k fed.at.0 fed.at.1 fed.most fed.unfinished c.if-count-eq0.true c.finish.ensures)

pub returns-else-count-eq0-clause-known : goal.returns-else-count-eq0-clause-known
returns-else-count-eq0-clause-known g c =
    let old = c.args.self.now in
    let new = c.pull.new.self in
    let name = c.args.name.now in
    let n = c.in_ok-count.count in
    let fed = c.in_ok-count.ensures in
    known_one (g.F.Folder.folder.files c.args.folder.now) (λ fs. FeedsOf (file_of fs name) old.at n old.reader new.reader)
    (λ fs. IsFedFrom (file_of fs name) old → Fills (file_of fs name) old new) fed.known
    (λ fs k h. fills_on (file_of fs name) n old new h k fed.at.0 fed.at.1 fed.most fed.unfinished)
