-- Calls on a folder, one after another.
use Rattle.xl_outside.proofs.Common.{◌∙◌, ◌≡◌, arith, Counted, FateCounts, FileMissing, Fine, FolderAfter, FolderMeaning, inl, inr, ReadFailed, ReadFate, refl, ℕ}

-- no call
pub folder_same : {D : Type 0} (folder : FolderMeaning D) (a : D) → FolderAfter folder a a Fine
folder_same folder a =
    record { keeps = refl; counts = (refl, refl); calm = λ h. (tt, h) }

counted_later : (a b c : ℕ) → b ≡ a → Counted b c → Counted a c
counted_later a b c h (k, inl l) = (omega arith, inl (omega arith))
counted_later a b c h (k, inr l) = (omega arith, inr l)

counts_later : (fate : ReadFate) (f g h a b c : ℕ) → g ≡ f → b ≡ a → FateCounts fate g h b c → FateCounts fate f h a c
counts_later Fine f g h a b c k l x = (x.0 ∙ k, x.1 ∙ l)
counts_later ReadFailed f g h a b c k l x = (counted_later f g h k x.0, x.1 ∙ l)
counts_later FileMissing f g h a b c k l x = (x.0 ∙ k, counted_later a b c l x.1)

-- calls that were all fine, and others after them
pub folder_then : {D : Type 0} (folder : FolderMeaning D) (a b c : D) (fate : ReadFate)
    → FolderAfter folder a b Fine → FolderAfter folder b c fate → FolderAfter folder a c fate
folder_then folder a b c fate x y = record {
  keeps = y.keeps ∙ x.keeps;
  counts = counts_later fate (folder.faults a) (folder.faults b) (folder.faults c) (folder.absences a) (folder.absences b) (folder.absences c) x.counts.0 x.counts.1 y.counts;
  calm = λ h. y.calm (x.calm h).1;
}
