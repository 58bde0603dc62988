-- The result of a source of records, by what is left of it.
use Rattle.std.specs.Prelude.{◌≡◌, ℕ, List, [], ◌∷◌, ◌++◌, length, map, Option, None, Some, Result, Ok, Err}
use Rattle.xl_model.specs.declared.address.Kind.{Kind}
use Rattle.xl_model.specs.Courses.{Accesses, Trail, at_end}
use Rattle.xl_lackey.specs.declared.skim.Access.{Access}
use Rattle.xl_lackey.specs.Accesses.{accesses}
use Rattle.xl_lackey.specs.Skims.{pair}
use Rattle.xl_course.specs.declared.stop.Stop.{Stop}
use Rattle.xl_course.specs.declared.stop.Stop.TheVariants as why
use Rattle.xl_course.specs.declared.source.Numbered.{Numbered}

-- A record that was given, with its accesses.
abbrev pub found_of : Numbered → Accesses
found_of r = record { number = r.number; accesses = accesses r.reference }

-- Why no record comes is what ends the trace; a failed read may come anywhere.
abbrev pub EndsBy : Stop → Trail → Type 0
EndsBy (why.Input fault) t = t ≡ at_end (Some fault)
EndsBy why.ReadFault t = Unit {0}
EndsBy why.WriteFault t = ⊥
EndsBy why.NoMemory t = ⊥

-- What a source returns that is asked for a record, by what is left of it before and after;
-- `reads_from` says that it is fed from its files alone still.
abbrev pub Gives : Type 0 → Trail → Trail → Result (Option Numbered) Stop → Type 0
Gives reads_from t u (Ok None) = reads_from × (t ≡ at_end None) × (u ≡ at_end None)
Gives reads_from t u (Ok (Some r)) = reads_from × (t ≡ record u { records = found_of r ∷ u.records })
Gives reads_from t u (Err stop) = EndsBy stop t

-- The accesses of some records, one record after another.
abbrev pub accesses_of_all : List Accesses → List (ℕ × Kind)
accesses_of_all [] = []
accesses_of_all (r ∷ rs) = r.accesses ++ accesses_of_all rs

-- `count` records were the first of what was left, and the rest of it is left; their accesses
-- follow those that were there before.
pub record Skims (reads_from : Type 0) (t u : Trail) (before after : List Access) (count : ℕ) : Type 0 where
  pub still_reads : reads_from
  pub taken : List Accesses
  pub got : List Access
  pub split : t ≡ record u { records = taken ++ u.records }
  pub follow : after ≡ before ++ got
  pub each : accesses_of_all taken ≡ map pair got
  pub many : length taken ≡ count
