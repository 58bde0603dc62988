use Rattle.xl_lackey.proofs.Common.{◌+◌, ◌-◌, ◌∙◌, ◌∷◌, ◌≡◌, [], Access, All-from_get_or, All-get_or, arith, Fetch, get_or, inl, inr, IsPrefix, IsRecordLine, Prefix, refl, subst, sym, take_rest, ℕ}
use Rattle.xl_lackey.proofs.PageLemmas.{IsByte, kept_line}
use Rattle.xl_lackey.proofs.prefixes.kept_record.Goals as goal

pub returns-in-Some-clause-record : goal.returns-in-Some-clause-record
returns-in-Some-clause-record c =
    let text = c.args.text.now in
    let extra = c.args.extra in
    let kept : Prefix = get_or c.args.prefixes.now c.place_of.result (record { word = 0; front = 0; addr = 0; kind = Fetch }) in
    let is = All-get_or (IsPrefix extra) c.args.prefixes.now c.place_of.result (record { word = 0; front = 0; addr = 0; kind = Fetch })
    (omega (arith, c.place_of.ensures, c.requires.places)) c.requires.kept in
    let above = c.in-Some.above in
    let line : IsRecordLine text (13 + extra + 1) (record { va = kept.addr + c.place_in_page-at.result; kind = kept.kind } ∷ []) =
    kept_line extra text _ _ kept c.place_in_page-at.result above (above + 1) 1 is c.requires.few c.requires.long
    (All-from_get_or IsByte text 0 (λ i h. (c.type_inv.text i).fits)) (c.if-not-begins.ensures.word refl ∙ c.word-word.ensures)
    (elim (c.if-not-begins.ensures.front refl) [ inl e ↦ inl e | inr e ↦ inr (e ∙ c.quad-front.ensures) ]) (take_rest text (8 + extra))
    c.place_in_page-at.ensures.value c.requires.comma (take_rest text (12 + extra)) c.in-Some.ensures.value refl c.in_ok-access.ensures.within (omega (arith, c.in-Some.ensures.small)) (omega arith) c.in-Some.ensures.newline in
    let used : 13 + extra + 1 ≡ 14 + extra = omega arith in
    subst (λ (k : ℕ). IsRecordLine text k (c.in_ok-access.field-0 ∷ [])) used
    (subst (λ (a : Access). IsRecordLine text (13 + extra + 1) (a ∷ [])) (sym c.in_ok-access.ensures.is) line)

pub returns-clause-record : goal.returns-clause-record
returns-clause-record c =
    let text = c.args.text.now in
    let extra = c.args.extra in
    let kept : Prefix = get_or c.args.prefixes.now c.place_of.result (record { word = 0; front = 0; addr = 0; kind = Fetch }) in
    let is = All-get_or (IsPrefix extra) c.args.prefixes.now c.place_of.result (record { word = 0; front = 0; addr = 0; kind = Fetch })
    (omega (arith, c.place_of.ensures, c.requires.places)) c.requires.kept in
    let size = c.in_ok-size.size in
    let some : size ≡ size - 1 + 1 = omega (arith, c.in_ok-size.ensures.some) in
    let line : IsRecordLine text (13 + extra + c.in_ok-size.digits) (record { va = kept.addr + c.place_in_page-at.result; kind = kept.kind } ∷ []) =
    kept_line extra text _ _ kept c.place_in_page-at.result (size - 1) size c.in_ok-size.digits is c.requires.few c.requires.long
    (All-from_get_or IsByte text 0 (λ i h. (c.type_inv.text i).fits)) (c.if-not-begins.ensures.word refl ∙ c.word-word.ensures)
    (elim (c.if-not-begins.ensures.front refl) [ inl e ↦ inl e | inr e ↦ inr (e ∙ c.quad-front.ensures) ]) (take_rest text (8 + extra))
    c.place_in_page-at.ensures.value c.requires.comma (take_rest text (12 + extra)) c.in_ok-size.ensures.value some c.in_ok-access-2.ensures.within c.in_ok-size.ensures.small c.in_ok-size.ensures.few c.in_ok-size.ensures.newline in
    subst (λ (a : Access). IsRecordLine text (13 + extra + c.in_ok-size.digits) (a ∷ [])) (sym c.in_ok-access-2.ensures.is) line
