-- What is put in front of what a buffer holds.
use Rattle.xl_report.proofs.Common.{◌++◌, ◌+◌, ◌-◌, ◌∙◌, ◌≡◌, ◌≤◌, ap, append_assoc, arith, chunk, drop, drop-append-le, drop-drop, length, length-drop, length-take-le, List, put_chunk, sym, take, take-append-drop, take_all, ℕ}
use Rattle.std.proofs.Math.Seq.{drop-append_seam}
use Rattle.std.proofs.lemmas.Simd.{put_chunk_is}

-- what a vector's store leaves from its start on
pub chunk_stored : (buffer bytes : List ℕ) (n end : ℕ) → n ≤ end → end ≤ length buffer → length bytes ≡ n
    → drop (end - n) (put_chunk (end - n) buffer bytes) ≡ bytes ++ drop end buffer
chunk_stored buffer bytes n end room within size =
    let start = end - n in
    let front = take start buffer in
    let long : length front ≡ start = length-take-le start buffer (omega arith) in
    let at : start + length bytes ≡ end = omega arith in
    ap (drop start) (put_chunk_is start buffer bytes (omega arith))
    ∙ ap (λ (m : ℕ). drop m (front ++ (bytes ++ drop (length bytes) (drop start buffer)))) (sym long)
    ∙ drop-append_seam front (bytes ++ drop (length bytes) (drop start buffer))
    ∙ ap (λ (ys : List ℕ). bytes ++ ys) (drop-drop (length bytes) start buffer ∙ ap (λ (m : ℕ). drop m buffer) at)

-- the last `n` bytes of a text, and then its first `n`, which may overlap them
pub ends_joined : (text rest first last : List ℕ) (n end at start : ℕ) → n ≤ length text → length text ≤ n + n → length text ≤ end
    → at + n ≡ end → drop at last ≡ chunk (length text - n) n text ++ rest
    → drop start first ≡ chunk 0 n text ++ drop (end - (length text - n)) last
    → drop start first ≡ text ++ rest
ends_joined text rest first last n end at start least most room e h k =
    let over = length text - n in
    let from : end - over ≡ at + (n - over) = omega arith in
    let all : over + (n - over) ≡ n = omega arith in
    let size = length-drop over text in
    k ∙ ap (λ (ys : List ℕ). take n text ++ ys)
    (ap (λ (m : ℕ). drop m last) from ∙ sym (drop-drop (n - over) at last)
    ∙ ap (drop (n - over)) (h ∙ ap (λ (ys : List ℕ). ys ++ rest) (take_all n (drop over text) (omega (arith, size))))
    ∙ drop-append-le (n - over) (drop over text) rest (omega (arith, size))
    ∙ ap (λ (ys : List ℕ). ys ++ rest) (drop-drop (n - over) over text ∙ ap (λ (m : ℕ). drop m text) all))
    ∙ sym (append_assoc (take n text) (drop n text) rest) ∙ ap (λ (ys : List ℕ). ys ++ rest) (take-append-drop n text)
