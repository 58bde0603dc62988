-- Pages that the addresses of lines lay in, and how such lines begin.
use Rattle.std.specs.Prelude.{◌≡◌, ℕ, ◌+◌, ◌*◌, ◌^◌, ◌<◌, false, List, ◌++◌, length, drop, Some, slice_index}
use Rattle.std.specs.List.{All}
use Rattle.std.specs.Simd.Lanes.{number_l}
use Rattle.xl_model.specs.declared.address.Kind.{Kind}
use Rattle.xl_lackey.specs.declared.prefixes.Prefix.{Prefix}
use Rattle.xl_lackey.specs.declared.reference.Letter.{Letter}
use Rattle.xl_lackey.specs.Digits.{hex_value}
use Rattle.xl_lackey.specs.Usual.{usual_front, first_kind, is_modify}

-- A line of such a kind begins so where its address has `extra` digits more than eight and lies in
-- this page: with its letter, and then all digits but the last three. A modify isn't meant.
pub record IsBeginning (extra : ℕ) (head : List ℕ) (kind : Kind) (page : ℕ) : Type 0 where
  pub letter : Letter
  pub high : List ℕ
  pub parts : head ≡ usual_front letter ++ high
  pub many : length high ≡ 5 + extra
  pub value : hex_value 0 high ≡ Some page
  pub small : page < 2 ^ 36
  pub first : kind ≡ first_kind letter
  pub sole : is_modify letter ≡ false

-- The first four bytes as a number, of which the first counts least.
abbrev pub four_bytes : List ℕ → ℕ
four_bytes text = slice_index text 0 + slice_index text 1 * 256 + slice_index text 2 * 65536 + slice_index text 3 * 16777216

-- A page as it is kept, of an address with `extra` digits more than eight.
pub record IsPrefix (extra : ℕ) (kept : Prefix) : Type 0 where
  pub head : List ℕ
  pub page : ℕ
  pub begins : IsBeginning extra head kept.kind page
  pub bytes : All (λ b. b < 256) head
  pub word : kept.word ≡ number_l 256 (drop extra head)
  pub front : kept.front ≡ four_bytes head
  pub addr : kept.addr ≡ page * 4096
