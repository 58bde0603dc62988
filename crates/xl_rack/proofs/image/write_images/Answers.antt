use Rattle.xl_rack.proofs.Common.{◌++◌, ◌+◌, ◌∙◌, ◌∷◌, ◌≡◌, [], ap, append-nil, append_assoc, arith, Bool, drop, false, image_lines, images_lines, List, refl, Served, served_of, sink_cut, sink_then, SinkAfter, SinkMeaning, slice_get, Some, subst, suc, sym, take, take-append-drop, true, zero, ℕ}
use Rattle.xl_rack.proofs.image.write_images.Goals as goal

-- the image of one row
abbrev image_of : Served → List ℕ
image_of v = image_lines v.row.name v.state.table.leaves v.state.table.shape

images-append : (xs ys : List Served) → images_lines (xs ++ ys) ≡ images_lines xs ++ images_lines ys
images-append [] ys = refl
images-append (x ∷ xs) ys = ap (λ (t : List ℕ). image_of x ++ t) (images-append xs ys) ∙ sym (append_assoc (image_of x) (images_lines xs) (images_lines ys))

images-next : (rows : List Served) (i : ℕ) (v : Served) → slice_get rows i ≡ Some v → images_lines (take (i + 1) rows) ≡ images_lines (take i rows) ++ image_of v
images-next rows i v h = (let e : i + 1 ≡ suc i = omega arith in ap (λ (j : ℕ). images_lines (take j rows)) e) ∙ one rows i h
  where
    one : (rows : List Served) (i : ℕ) → slice_get rows i ≡ Some v → images_lines (take (suc i) rows) ≡ images_lines (take i rows) ++ image_of v
    one [] i h = absurd (grind arith)
    one (r ∷ rows) zero h = let e : r ≡ v = cc in append-nil (image_of r) ∙ ap image_of e
    one (r ∷ rows) (suc i) h = ap (λ (t : List ℕ). image_of r ++ t) (one rows i h) ∙ sym (append_assoc (image_of r) (images_lines (take i rows)) (image_of v))

module _ {K : Type 0} (sink : SinkMeaning K) where
  image-written : (rows : List Served) (i : ℕ) (v : Served) (k l m : K) (whole : Bool) → slice_get rows i ≡ Some v
      → SinkAfter sink (images_lines (take i rows)) k l true → SinkAfter sink (image_of v) l m whole
      → SinkAfter sink (images_lines (take (i + 1) rows)) k m whole
  image-written rows i v k l m whole e first next =
      subst (λ (t : List ℕ). SinkAfter sink t k m whole) (sym (images-next rows i v e))
      (sink_then sink (images_lines (take i rows)) (image_of v) k l m whole first next)

  images-cut : (rows : List Served) (i : ℕ) (k l : K) → SinkAfter sink (images_lines (take i rows)) k l false → SinkAfter sink (images_lines rows) k l false
  images-cut rows i k l first =
      subst (λ (t : List ℕ). SinkAfter sink t k l false) (sym (images-append (take i rows) (drop i rows)) ∙ ap images_lines (take-append-drop i rows))
      (sink_cut sink (images_lines (take i rows)) (images_lines (drop i rows)) k l first)

pub returns-in-Err : goal.returns-in-Err
returns-in-Err g c =
    images-cut g.K.Sink.sink c.args.rack.now (c.loop-i.i + 1) c.args.out.now c.write_slot.new.out
    (image-written g.K.Sink.sink c.args.rack.now c.loop-i.i (served_of c.machine.result.now) c.args.out.now c.loop-i.out c.write_slot.new.out false
    c.machine.ensures.served c.loop-i.invariant c.in-Err.ensures)

pub loop-i-preserved : goal.loop-i-preserved
loop-i-preserved g c =
    image-written g.K.Sink.sink c.args.rack.now c.loop-i.i (served_of c.machine.result.now) c.args.out.now c.loop-i.out c.write_slot.new.out true
    c.machine.ensures.served c.loop-i.invariant c.in-Ok.ensures
