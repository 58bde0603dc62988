-- Events of harts, and the counts after them, by another program.
use Rattle.std.specs.Prelude.{true, false, List, [], ◌∷◌, map}
use Rattle.std.proofs.Common.{refl}
use Rattle.xl_model.specs.declared.address.Kind.TheVariants as kind
use Rattle.xl_model.specs.declared.address.Order.TheVariants as order
use Rattle.xl_model.specs.declared.event.Event.TheVariants as event
use Rattle.xl_hart_model.specs.declared.hart.AllCounts.{AllCounts}
use Rattle.xl_hart_model.specs.declared.hart.HartCounts.{HartCounts}
use Rattle.xl_hart_model.specs.declared.hart.HartEvent.{HartEvent}
use Rattle.xl_hart_model.specs.declared.hart.HartEvent.TheVariants as step
use Rattle.xl_hart_model.specs.declared.hart.HartSpec.{HartSpec}
use Rattle.xl_model.specs.declared.perm.Perm.{Perm}
use Rattle.xl_hart_model.specs.Tally.{no_refusals, no_hart_counts}
use Rattle.xl_hart_model.specs.Harts.{HartsState, after_hart_events, all_counts, opening_harts}

-- Read.
abbrev pub perm_r__u : Perm
perm_r__u = record { r = true; w = false; x = false; u = true; legal = refl }

-- Read and write.
abbrev pub perm_rw_u : Perm
perm_rw_u = record { r = true; w = true; x = false; u = true; legal = refl }

-- The counts of harts after some events: of each, and of all together.
pub record Figures : Type 0 where
  pub harts : List HartCounts
  pub all : AllCounts

-- The counts of harts in a state.
abbrev pub figures_of : HartsState → Figures
figures_of s = record { harts = map (λ h. h.counts) s.harts; all = all_counts s }

-- The counts of harts after some events from the opening on.
abbrev pub figures : HartSpec → List HartEvent → Figures
figures spec events = figures_of (after_hart_events events (opening_harts spec))

-- Two harts, of which one reads by an older mapping.
abbrev pub an_older_mapping_spec : HartSpec
an_older_mapping_spec = record { harts = 2; queue = 4; frames = 2; nodes = 16; spaces = 1; sets = 1 }

-- What is served then.
abbrev pub an_older_mapping_events : List HartEvent
an_older_mapping_events =
    (step.Own (event.Map 0 4096 order.K4 perm_rw_u)) ∷
    (step.Hart 0) ∷
    (step.Own (event.Access 4104 kind.Load)) ∷
    (step.Hart 1) ∷
    (step.Own (event.Access 4104 kind.Load)) ∷
    (step.Own (event.Unmap 0 4096 order.K4)) ∷
    (step.Own (event.Access 4104 kind.Load)) ∷
    (step.Take 0) ∷
    (step.Take 0) ∷
    (step.Own (event.Map 0 8192 order.K4 perm_rw_u)) ∷
    (step.Take 1) ∷
    (step.Take 1) ∷
    (step.Own (event.Access 4104 kind.Load)) ∷
    (step.Own (event.Map 0 12288 order.K4 perm_rw_u)) ∷ []

-- The counts after that.
abbrev pub an_older_mapping_figures : Figures
an_older_mapping_figures = record {
  harts =
      (record { accesses = 1; ok = 1; unmapped = 0; denied = 0; not_canonical = 0; hits = 0; misses = 1; reads = 3; taken = 2; invalidated = 1; pasum = 8 })
      ∷ (record { accesses = 3; ok = 2; unmapped = 1; denied = 0; not_canonical = 0; hits = 1; misses = 2; reads = 6; taken = 2; invalidated = 1; pasum = 16 })
      ∷ [];
  all = record { accepted = 4; refused = no_refusals; waiting = 4; held = 0 };
}

-- One hart and one frame, which an unmap holds back.
abbrev pub a_frame_held_back_spec : HartSpec
a_frame_held_back_spec = record { harts = 1; queue = 4; frames = 1; nodes = 16; spaces = 1; sets = 1 }

-- What is served then.
abbrev pub a_frame_held_back_events : List HartEvent
a_frame_held_back_events =
    (step.Own (event.Map 0 4096 order.K4 perm_r__u)) ∷
    (step.Own (event.Unmap 0 4096 order.K4)) ∷
    (step.Own (event.Map 0 4096 order.K4 perm_r__u)) ∷
    (step.Take 0) ∷
    (step.Take 0) ∷
    (step.Own (event.Map 0 4096 order.K4 perm_r__u)) ∷
    (step.Own (event.Access 4096 kind.Load)) ∷ []

-- The counts after that.
abbrev pub a_frame_held_back_figures : Figures
a_frame_held_back_figures = record {
  harts = (record no_hart_counts { accesses = 1; ok = 1; misses = 1; reads = 3; taken = 2 }) ∷ [];
  all = record { accepted = 3; refused = 0 ∷ 0 ∷ 0 ∷ 0 ∷ 0 ∷ 0 ∷ 1 ∷ 0 ∷ 0 ∷ 0 ∷ 0 ∷ 0 ∷ []; waiting = 1; held = 0 };
}
