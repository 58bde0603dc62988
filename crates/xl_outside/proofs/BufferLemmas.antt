-- What a buffer holds, after what the sink below it took.
use Rattle.xl_outside.proofs.Common.{◌∙◌, ◌≡◌, [], ap, Bool, drop, false, FlushedWhere, List, Option, sym, take, take-append-drop, true, with_more, with_more-twice, with_none, ℕ}

-- the sink below took some first bytes, and the others are held
pub moved_on : (taken after : Option (List ℕ)) (held : List ℕ) (n : ℕ) → after ≡ with_more taken (take n held)
    → with_more after (drop n held) ≡ with_more taken held
moved_on taken after held n h =
    ap (λ (w : Option (List ℕ)). with_more w (drop n held)) h ∙ with_more-twice taken (take n held) (drop n held)
    ∙ ap (with_more taken) (take-append-drop n held)

-- where nothing is held, all is written that the sink below took
pub flushed_none : (whole : Bool) (written taken : Option (List ℕ)) (held : List ℕ) → held ≡ [] → FlushedWhere whole written taken
    → FlushedWhere whole written (with_more taken held)
flushed_none true written taken held h k = k ∙ with_none taken ∙ ap (with_more taken) (sym h)
flushed_none false written taken held h k = tt
