-- What a way keeps, at each value of its registers.
use Rattle.std.specs.Prelude.{ℕ, ◌≡◌, ◌+◌, ◌-◌, ◌*◌, ◌%◌, ◌^◌, ◌<◌, ◌≤◌, true, false, if◌then◌else◌, List, length, slice_index}
use Rattle.xl_model.specs.declared.way.Entry.{Entry}
use Rattle.xl_model.specs.declared.way.WayRegs.{WayRegs}
use Rattle.xl_model.specs.Ways.{WayShape, slot}
use Rattle.xl_list_lemmas.specs.Members.{In}
use Rattle.xl_way.specs.Slots.{no_entry, cell, entries_of, word_of}
use Rattle.xl_way.specs.Words.{slots_of, words_of}
use Rattle.xl_way.specs.Back.{slot_back, look_of}

-- The slots that a key can have: twice as many while the way is growing.
abbrev pub reach : WayRegs → ℕ
reach r = if r.growing then 2 ^ (r.s + 1) else 2 ^ r.s

-- The registers of a way that may grow to 2^cap slots: the pointer is below the slots, and 0 unless
-- the way is growing.
pub record AreRegs (cap : ℕ) (r : WayRegs) : Type 0 where
  pub few : cap ≤ 18
  pub below : r.p < 2 ^ r.s
  pub still : r.growing ≡ false → r.p ≡ 0
  pub within : r.s ≤ cap
  pub room : r.growing ≡ true → r.s < cap

-- What is kept beside a number and registers, so that a key's slot takes no more than a sum, a mix
-- and two masks.
pub record IsReady (number : ℕ) (r : WayRegs) (salt mask wide : ℕ) : Type 0 where
  pub salted : salt ≡ (number + 1) * 0x9e3779b97f4a7c15 % 2 ^ 64
  pub few : r.s ≤ 18
  pub slots : mask ≡ 2 ^ r.s - 1
  pub twice : wide ≡ 2 ^ (r.s + 1) - 1
  pub still : r.growing ≡ false → r.p ≡ 0

-- Each entry is in its key's slot, and an empty slot has key 0.
pub record ArePlaced (number : ℕ) (r : WayRegs) (slots : List Entry) : Type 0 where
  pub full : (i : ℕ) → i < length slots → ((cell slots i).word ≡ 0 → ⊥) → slot r number (cell slots i).key ≡ i
  pub empty : (i : ℕ) → i < length slots → (cell slots i).word ≡ 0 → cell slots i ≡ no_entry

-- What a way of this number keeps.
pub record IsKept (number cap : ℕ) (r : WayRegs) (slots : List Entry) (used : ℕ) : Type 0 where
  pub regs : AreRegs cap r
  pub size : length slots ≡ slots_of cap
  pub placed : ArePlaced number r slots
  pub count : used ≡ length (entries_of slots)

-- The words say what a way holds: each entry's are those of its key's slot, and a look at the words
-- finds what is kept for a key, and nothing else.
pub record WordsReadBack (w : WayShape) : Type 0 where
  pub size : length (words_of w) ≡ 2 * slots_of w.cap
  pub keys : (e : Entry) → In e w.entries → slice_index (words_of w) (2 * slot w.regs w.number e.key) ≡ e.key
  pub words : (e : Entry) → In e w.entries → slice_index (words_of w) (2 * slot w.regs w.number e.key + 1) ≡ e.word
  pub found : (key : ℕ) → slot_back (words_of w) w.regs w.number key ≡ look_of (word_of key w.entries)

-- Two entries have two slots, and no entry's word is 0.
pub record AreApart (w : WayShape) : Type 0 where
  pub slots : (x y : Entry) → In x w.entries → In y w.entries → slot w.regs w.number x.key ≡ slot w.regs w.number y.key → x ≡ y
  pub some : (e : Entry) → In e w.entries → 0 < e.word
