-- The item that keeps a leaf in all its parts.
use Rattle.xl_array.proofs.Common.{◌&&◌, ◌/◌, ◌<◌, ◌==◌, ◌≡◌, ap, Bool, has_tag, is_equal, IsFit, Item, keeps_leaf, Leaf, true}
use Rattle.std.specs.Cmp.{first_so}
unfoldable use Rattle.xl_array.specs.Coding.{leaf_of, tag_of}
unfoldable use Rattle.xl_model.specs.LeafWords.{perm_at}
use Rattle.xl_model.specs.Ranges.{same_perm}
use Rattle.xl_model.specs.Tlb.{set_number}
use Rattle.xl_model.specs.declared.row.TlbSpec.{TlbSpec}
use Rattle.xl_array.proofs.DropLemmas.{tag_there}
use Rattle.xl_array.proofs.TagLemmas.{same_leaf}

-- an item keeps the leaf where the leaf that it says is equal to it
pub same_kept : (i : Item) (x : Leaf) → IsFit x → keeps_leaf (tag_of x.space x.first x.order) x.frame x.perm i ≡ is_equal x (leaf_of i)
unfolding leaf_of
same_kept i x fit = ap (λ (b : Bool). b && ((i.word / 16 == x.frame) && same_perm (perm_at i.word) x.perm)) (same_leaf i x.space x.first x.order fit.space_in fit.aligned)

-- it is in the set of the leaf
pub kept_there : (spec : TlbSpec) (x : Leaf) → x.space < 64 → (i : Item) → keeps_leaf (tag_of x.space x.first x.order) x.frame x.perm i ≡ true
    → set_number spec (leaf_of i).order (leaf_of i).first ≡ set_number spec x.order x.first
kept_there spec x small i t = tag_there spec x.space x.first x.order small i (first_so (has_tag (tag_of x.space x.first x.order) i) _ t)
