use Rattle.xl_serving.proofs.Common.{EndsBy, file_of, HasMore, IsFedFrom, known_one, left_of, limit, TraceTooLong}
use Rattle.xl_serving.proofs.PieceLemmas.{too_long}
use Rattle.xl_course.specs.declared.stop.Stop.TheVariants as why
use Rattle.xl_serving.proofs.tape.Tape.end_at_limit.Goals as goal

pub returns-then-more-clause-known : goal.returns-then-more-clause-known
returns-then-more-clause-known g c =
    let p = c.args.self.now in
    let name = c.args.name.now in
    known_one (g.F.Folder.folder.files c.args.folder.now) (λ fs. HasMore (file_of fs name) limit c.in_ok-more.more)
    (λ fs. IsFedFrom (file_of fs name) p → EndsBy (why.Input TraceTooLong) (left_of (file_of fs name) p))
    c.in_ok-more.ensures.known
    (λ fs h w. too_long (file_of fs name) p c.in_ok-more.more h c.if-more.true c.requires.limit c.requires.none)
