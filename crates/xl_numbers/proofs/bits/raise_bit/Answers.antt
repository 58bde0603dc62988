use Rattle.xl_numbers.proofs.Common.{◌%◌, ◌/◌, arith, bit_at_set_other, bit_at_set_same, slice_index, w64}
use Rattle.xl_numbers.proofs.BitLemmas.{put-word}
use Rattle.xl_numbers.proofs.bits.raise_bit.Goals as goal

pub returns : goal.returns
returns c =
    let k = c.args.k in
    let word = slice_index c.args.words.now (k / 64) in
    put-word c.args.words.now k _ 1 (omega arith) (bit_at_set_same w64 word (k % 64) (omega arith)) (λ i small other. bit_at_set_other w64 word (k % 64) (omega arith) i other)
