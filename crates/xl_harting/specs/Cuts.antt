-- What a reader of scripts owes.
use Rattle.std.proofs.Common.{ap}
use Rattle.std.specs.Prelude.{◌≡◌, ℕ, List, None, take}
use Rattle.xl_hart_script.specs.Scripts.{harts_said, harts_script_of, script_in}
use Rattle.xl_paired.proofs.PairLemmas.{text_cut}

-- A script that is cut one byte after the greatest size is refused as the whole is.
pub script_cut : (text : List ℕ) → harts_script_of (take 1048577 text) ≡ harts_script_of text
unfolding harts_script_of
script_cut text = ap script_in (text_cut harts_said None text)
