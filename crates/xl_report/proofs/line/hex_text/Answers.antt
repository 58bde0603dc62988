use Rattle.xl_report.proofs.Common.{◌+◌, ◌<◌, ◌∙◌, ◌≡◌, ap, arith, digits_l, Each1, hex_digits, hex_glyph, List, map, subst, sym, ℕ}
use Rattle.xl_report.proofs.HexLemmas.{bytes_small, digits_made, halves_small}
use Rattle.xl_report.proofs.line.hex_text.Goals as goal

pub glyphs-requires : goal.glyphs-requires
glyphs-requires c =
    subst (λ (ds : List ℕ). Each1 (λ d. d < 16) ds) (sym c.halves.ensures)
    (halves_small (digits_l 256 8 (c.args.n + 0)) (bytes_small 8 (c.args.n + 0)))

pub returns : goal.returns
returns c =
    let whole : c.args.n + 0 ≡ c.args.n = omega arith in
    c.glyphs.ensures ∙ ap (λ (ds : List ℕ). map hex_glyph ds) c.halves.ensures ∙ digits_made 8 (c.args.n + 0)
    ∙ ap (λ (m : ℕ). hex_digits 16 m) whole
