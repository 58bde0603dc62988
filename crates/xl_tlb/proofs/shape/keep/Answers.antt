use Rattle.xl_tlb.proofs.ShapeLemmas.{all_known}
use Rattle.xl_tlb.proofs.shape.keep.Goals as goal

pub returns : goal.returns
returns g c = λ old new fits specs kept.
    let first = c.first.ensures.value in
    let known = rw first at c.renew.ensures.known in
    let others = rw first at c.renew.ensures.others in
    let one = known _ _ (fits.known.knows c.args.kind) (λ e. kept.stays (c.has_eights-eights.ensures old fits e c.args.kind)) kept.front in
    record {
      shape = rw specs fits.shape;
      known = record {
        numbers = fits.known.numbers;
        eights = λ e. rw specs (fits.known.eights e);
        knows = all_known _ c.args.kind c.args.lookup.space c.args.lookup.page c.args.word c.args.pages.now.newest c.renew.new.self old new kept one others fits.known.knows;
      };
    }
