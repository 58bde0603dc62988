-- The account of the plain form, in the words of the report.
use Rattle.xl_serving.proofs.Common.{◌++◌, ◌∙◌, ◌≡◌, ap, append-nil, end_text, false, InputFault, last_where, List, lives_after, opening_scene, Option, plain, printed_by, report, Scene, scene-is, scenes_printed, states_after, sym, tail, unprinted, ℕ}
use Rattle.xl_serving.proofs.PlainLemmas.{printed-plain, scenes-states}
use Rattle.xl_serving.specs.Laws.{AFaultEndsTheText, TheTextIsTheReport}

pub the_text_is_the_report : TheTextIsTheReport
unfolding report tail
the_text_is_the_report c rows flags none =
    let first : Scene = opening_scene rows in
    let left : Scene = states_after plain c.items first in
    let same : left ≡ (lives_after flags.answers c.items (unprinted first)).scene =
    sym (scene-is flags.answers c.items (unprinted first) ∙ scenes-states c.items first) in
    ap (λ (f : Option InputFault). printed_by plain flags.answers c.items first ++ last_where f (end_text false flags.images left)) none
    ∙ ap (λ (t : List ℕ). t ++ end_text false flags.images left) (sym (printed-plain flags.answers c.items first))
    ∙ ap (λ (s : Scene). scenes_printed flags.answers c.items first ++ end_text false flags.images s) same

pub a_fault_ends_the_text : AFaultEndsTheText
a_fault_ends_the_text c fault rows flags some =
    let first : Scene = opening_scene rows in
    let left : Scene = states_after plain c.items first in
    ap (λ (f : Option InputFault). printed_by plain flags.answers c.items first ++ last_where f (end_text false flags.images left)) some
    ∙ append-nil (printed_by plain flags.answers c.items first)
    ∙ sym (printed-plain flags.answers c.items first)
