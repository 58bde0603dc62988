-- One word that opens every definition of the readers, for proofs that compute with them all.
use Rattle.std.specs.Prelude.{⊤}
use Rattle.xl_lackey.specs.Lines.{judge}
use Rattle.xl_script.specs.Commands.{checked_leaves, unmap_words, move_words, fence_by, demand_words, named, placed}
use Rattle.xl_script.specs.Numbers.{decimal_of, hexadecimal_of}
use Rattle.xl_script.specs.Plain.{script_of}
use Rattle.xl_script.specs.Scripts.{text_read}
use Rattle.xl_script.specs.Texts.{script_lines, words_of}
use Rattle.xl_script.specs.Words.{order_of}
use Rattle.xl_config.specs.Arrays.{array_in}
use Rattle.xl_config.specs.Rows.{row_in, elements_in, rows_in}
use Rattle.xl_config.specs.Tables.{radix_in, hashed_in, clustered_in, cuckoo_in, range_in}

-- Every definition is open.
unfoldable pub reading : ⊤
unfolding judge checked_leaves unmap_words move_words fence_by demand_words named placed decimal_of hexadecimal_of script_of text_read script_lines words_of order_of array_in row_in elements_in rows_in radix_in hashed_in clustered_in cuckoo_in range_in
reading = tt
