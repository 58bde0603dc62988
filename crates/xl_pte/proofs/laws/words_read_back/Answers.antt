use Rattle.xl_pte.proofs.BitLemmas.{decode-made-leaf, decode-made-pointer}
use Rattle.xl_pte.proofs.laws.words_read_back.Goals as goal

pub returns : goal.returns
returns c = record {
  pointer = λ node level h low high. decode-made-pointer node level h low;
  leaf = λ frame level p h high aligned. decode-made-leaf frame level p h aligned;
}
