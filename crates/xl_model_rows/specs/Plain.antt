-- The row that most reports begin with, and words for what is in many of them.
use Rattle.std.specs.Prelude.{true, false, List, [], ◌∷◌, codes}
use Rattle.std.proofs.Common.{refl}
use Rattle.xl_model.specs.declared.address.Mode.TheVariants as mode
use Rattle.xl_model.specs.declared.perm.Perm.{Perm}
use Rattle.xl_model.specs.declared.row.Purge.TheVariants as purge
use Rattle.xl_model.specs.declared.row.Serves.TheVariants as serves
use Rattle.xl_model.specs.declared.row.Table.TheVariants as table
use Rattle.xl_model.specs.declared.row.TlbSpec.{TlbSpec}
use Rattle.xl_model.specs.Rows.{Row}
use Rattle.xl_model.specs.Report.{Flags}

-- Sv39, 64 frames, two spaces, a radix table of 64 frames without caches, and no TLB
abbrev pub plain_row : Row
plain_row = record {
  name = codes "a";
  mode = mode.Sv39;
  frames = 64;
  spaces = 2;
  purge = purge.Page;
  table = table.Radix 64 (0 ∷ 0 ∷ 0 ∷ 0 ∷ []);
  tlb = [];
}

-- one array of one set of eight leaves of every order
abbrev pub one_array : List TlbSpec
one_array = record { level = 1; sets = 1; width = 8; k4 = true; m2 = true; g1 = true; serves = serves.All } ∷ []

-- Read, for the supervisor alone.
abbrev pub perm_r___ : Perm
perm_r___ = record { r = true; w = false; x = false; u = false; legal = refl }

-- Read.
abbrev pub perm_r__u : Perm
perm_r__u = record { r = true; w = false; x = false; u = true; legal = refl }

-- Read and execute.
abbrev pub perm_r_xu : Perm
perm_r_xu = record { r = true; w = false; x = true; u = true; legal = refl }

-- Read and write.
abbrev pub perm_rw_u : Perm
perm_rw_u = record { r = true; w = true; x = false; u = true; legal = refl }

-- Read, write and execute.
abbrev pub perm_rwxu : Perm
perm_rwxu = record { r = true; w = true; x = true; u = true; legal = refl }

-- Read, write and execute, for the supervisor alone.
abbrev pub perm_rwx_ : Perm
perm_rwx_ = record { r = true; w = true; x = true; u = false; legal = refl }

-- The rows alone are asked for.
abbrev pub rows_alone : Flags
rows_alone = record { answers = false; images = false }

-- Rows and a line for each access and command.
abbrev pub with_answers : Flags
with_answers = record { answers = true; images = false }

-- Rows and the words of radix tables.
abbrev pub with_images : Flags
with_images = record { answers = false; images = true }
