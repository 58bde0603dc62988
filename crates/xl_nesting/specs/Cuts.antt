-- What a reader of scripts owes.
use Rattle.std.proofs.Common.{ap}
use Rattle.std.specs.Prelude.{◌≡◌, ℕ, List, None, take}
use Rattle.xl_nested_script.specs.Scripts.{nest_said, nest_script_of, script_in}
use Rattle.xl_paired.proofs.PairLemmas.{text_cut}

-- A script that is cut one byte after the greatest size is refused as the whole is.
pub script_cut : (text : List ℕ) → nest_script_of (take 1048577 text) ≡ nest_script_of text
unfolding nest_script_of
script_cut text = ap script_in (text_cut nest_said None text)
