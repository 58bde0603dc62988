use Rattle.xl_lackey.proofs.Common.{All-from_get_or, All-set, arith, IsPrefix}
use Rattle.xl_lackey.proofs.PageLemmas.{IsByte, page_kept}
use Rattle.xl_lackey.proofs.prefixes.keep_page.Goals as goal

pub returns : goal.returns
returns c =
    let text = c.args.text.now in
    let bytes = All-from_get_or IsByte text 0 (λ i h. (c.type_inv.text i).fits) in record {
      kept = All-set (IsPrefix c.args.extra) c.args.prefixes.now c.place_of.result _
          (page_kept c.args.extra text c.args.kind c.args.page c.word-word.result c.quad-front.result (omega (arith, c.requires.long, c.requires.few)) bytes
          c.requires.begins c.word-word.ensures c.quad-front.ensures) c.requires.kept;
    }
