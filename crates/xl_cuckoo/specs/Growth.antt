-- The way that is to grow, as the code keeps it.
use Rattle.std.specs.Prelude.{Option, None, Some}
use Rattle.xl_model.specs.Placing.{Candidate}
use Rattle.xl_cuckoo.specs.declared.growing.Growable.{Growable}

-- A way that may grow, in the words of the rules.
abbrev pub candidate_of : Growable → Candidate
candidate_of g = record { way = g.way; size = g.size }

-- A way that may grow, if there is one.
abbrev pub candidate_in : Option Growable → Option Candidate
candidate_in None = None
candidate_in (Some g) = Some (candidate_of g)
