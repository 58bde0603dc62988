-- Made words are read back.
use Rattle.std.specs.Prelude.{ℕ, ◌≡◌, ◌*◌, ◌%◌, ◌^◌, ◌<◌}
use Rattle.xl_model.specs.Words.{pointer_word, leaf_word}
use Rattle.xl_model.specs.declared.perm.Perm.{Perm}
use Rattle.xl_pte.specs.Decode.{decode_of}
use Rattle.xl_pte.specs.declared.word.Pte.TheVariants.{Pointer, Leaf}

-- A made word says what it was made of: a pointer at each level above 0, a leaf at each level at
-- which its frame is aligned.
pub record MadeWordsReadBack : Type 0 where
  pub pointer : (node level : ℕ) → node < 2 ^ 44 → 0 < level → level < 5 → decode_of (pointer_word node) level ≡ Pointer node
  pub leaf : (frame level : ℕ) (p : Perm) → frame < 2 ^ 44 → level < 5 → frame % 2 ^ (9 * level) ≡ 0 → decode_of (leaf_word frame p) level ≡ Leaf frame p
