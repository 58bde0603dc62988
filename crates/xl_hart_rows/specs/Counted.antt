-- Events of harts with what is counted, each row by another program.
use Rattle.std.specs.Prelude.{List, [], ◌∷◌}
use Rattle.xl_model.specs.declared.address.Kind.TheVariants as kind
use Rattle.xl_model.specs.declared.address.Order.TheVariants as order
use Rattle.xl_model.specs.declared.event.Event.TheVariants as event
use Rattle.xl_hart_model.specs.declared.hart.HartEvent.{HartEvent}
use Rattle.xl_hart_model.specs.declared.hart.HartEvent.TheVariants as step
use Rattle.xl_hart_model.specs.declared.hart.HartSpec.{HartSpec}
use Rattle.xl_hart_model.specs.Tally.{no_hart_counts, no_refusals}
use Rattle.xl_hart_rows.specs.Rows.{Figures, perm_r__u, perm_rw_u}

-- Eight harts read a page that is then unmapped, and take in rising order: each loses its entry,
-- and the last one frees the frame.
abbrev pub eight_harts_in_turn_spec : HartSpec
eight_harts_in_turn_spec = record { harts = 8; queue = 4; frames = 1; nodes = 16; spaces = 1; sets = 2 }

-- What is served.
abbrev pub eight_harts_in_turn_events : List HartEvent
eight_harts_in_turn_events =
    (step.Own (event.Map 0 4096 order.K4 perm_rw_u)) ∷
    (step.Own (event.Access 4104 kind.Load)) ∷
    (step.Hart 1) ∷
    (step.Own (event.Access 4104 kind.Load)) ∷
    (step.Hart 2) ∷
    (step.Own (event.Access 4104 kind.Load)) ∷
    (step.Hart 3) ∷
    (step.Own (event.Access 4104 kind.Load)) ∷
    (step.Hart 4) ∷
    (step.Own (event.Access 4104 kind.Load)) ∷
    (step.Hart 5) ∷
    (step.Own (event.Access 4104 kind.Load)) ∷
    (step.Hart 6) ∷
    (step.Own (event.Access 4104 kind.Load)) ∷
    (step.Hart 7) ∷
    (step.Own (event.Access 4104 kind.Load)) ∷
    (step.Own (event.Unmap 0 4096 order.K4)) ∷
    (step.Take 0) ∷
    (step.Take 1) ∷
    (step.Take 2) ∷
    (step.Take 3) ∷
    (step.Take 4) ∷
    (step.Take 5) ∷
    (step.Take 6) ∷
    (step.Take 7) ∷
    (step.Take 0) ∷
    (step.Take 1) ∷
    (step.Take 2) ∷
    (step.Take 3) ∷
    (step.Take 4) ∷
    (step.Take 5) ∷
    (step.Take 6) ∷
    (step.Own (event.Map 0 8192 order.K4 perm_rw_u)) ∷
    (step.Take 7) ∷
    (step.Own (event.Map 0 8192 order.K4 perm_rw_u)) ∷
    (step.Own (event.Access 8200 kind.Load)) ∷ []

-- What is counted.
abbrev pub eight_harts_in_turn_figures : Figures
eight_harts_in_turn_figures = record {
  harts =
      (record no_hart_counts { accesses = 1; ok = 1; misses = 1; reads = 3; taken = 2; invalidated = 1; pasum = 8 })
      ∷ (record no_hart_counts { accesses = 1; ok = 1; misses = 1; reads = 3; taken = 2; invalidated = 1; pasum = 8 })
      ∷ (record no_hart_counts { accesses = 1; ok = 1; misses = 1; reads = 3; taken = 2; invalidated = 1; pasum = 8 })
      ∷ (record no_hart_counts { accesses = 1; ok = 1; misses = 1; reads = 3; taken = 2; invalidated = 1; pasum = 8 })
      ∷ (record no_hart_counts { accesses = 1; ok = 1; misses = 1; reads = 3; taken = 2; invalidated = 1; pasum = 8 })
      ∷ (record no_hart_counts { accesses = 1; ok = 1; misses = 1; reads = 3; taken = 2; invalidated = 1; pasum = 8 })
      ∷ (record no_hart_counts { accesses = 1; ok = 1; misses = 1; reads = 3; taken = 2; invalidated = 1; pasum = 8 })
      ∷ (record no_hart_counts { accesses = 2; ok = 2; misses = 2; reads = 6; taken = 2; invalidated = 1; pasum = 16 })
      ∷ [];
  all = record { accepted = 3; refused = 0 ∷ 0 ∷ 0 ∷ 0 ∷ 0 ∷ 0 ∷ 1 ∷ 0 ∷ 0 ∷ 0 ∷ 0 ∷ 0 ∷ []; waiting = 8; held = 0 };
}

-- The same in falling order, some harts twice in turn.
abbrev pub eight_harts_in_falling_order_spec : HartSpec
eight_harts_in_falling_order_spec = record { harts = 8; queue = 4; frames = 1; nodes = 16; spaces = 1; sets = 2 }

-- What is served.
abbrev pub eight_harts_in_falling_order_events : List HartEvent
eight_harts_in_falling_order_events =
    (step.Own (event.Map 0 4096 order.K4 perm_rw_u)) ∷
    (step.Hart 3) ∷
    (step.Own (event.Access 4104 kind.Load)) ∷
    (step.Own (event.Unmap 0 4096 order.K4)) ∷
    (step.Take 7) ∷
    (step.Take 7) ∷
    (step.Take 6) ∷
    (step.Take 5) ∷
    (step.Take 6) ∷
    (step.Take 5) ∷
    (step.Take 4) ∷
    (step.Take 3) ∷
    (step.Take 4) ∷
    (step.Own (event.Map 0 8192 order.K4 perm_rw_u)) ∷
    (step.Hart 3) ∷
    (step.Own (event.Access 4112 kind.Load)) ∷
    (step.Take 3) ∷
    (step.Own (event.Access 4120 kind.Load)) ∷
    (step.Take 2) ∷
    (step.Take 1) ∷
    (step.Take 0) ∷
    (step.Take 2) ∷
    (step.Take 1) ∷
    (step.Own (event.Map 0 8192 order.K4 perm_rw_u)) ∷
    (step.Take 0) ∷
    (step.Own (event.Map 0 8192 order.K4 perm_rw_u)) ∷
    (step.Own (event.Access 8200 kind.Load)) ∷ []

-- What is counted.
abbrev pub eight_harts_in_falling_order_figures : Figures
eight_harts_in_falling_order_figures = record {
  harts =
      (record no_hart_counts { taken = 2 })
      ∷ (record no_hart_counts { taken = 2 })
      ∷ (record no_hart_counts { taken = 2 })
      ∷ (record no_hart_counts { accesses = 4; ok = 3; unmapped = 1; hits = 1; misses = 3; reads = 7; taken = 2; invalidated = 1; pasum = 32 })
      ∷ (record no_hart_counts { taken = 2 })
      ∷ (record no_hart_counts { taken = 2 })
      ∷ (record no_hart_counts { taken = 2 })
      ∷ (record no_hart_counts { taken = 2 })
      ∷ [];
  all = record { accepted = 3; refused = 0 ∷ 0 ∷ 0 ∷ 0 ∷ 0 ∷ 0 ∷ 2 ∷ 0 ∷ 0 ∷ 0 ∷ 0 ∷ 0 ∷ []; waiting = 8; held = 0 };
}

-- A queue of two is full after two maps; a take of one hart leaves the other's full.
abbrev pub a_full_queue_spec : HartSpec
a_full_queue_spec = record { harts = 2; queue = 2; frames = 8; nodes = 16; spaces = 1; sets = 1 }

-- What is served.
abbrev pub a_full_queue_events : List HartEvent
a_full_queue_events =
    (step.Own (event.Map 0 4096 order.K4 perm_rw_u)) ∷
    (step.Own (event.Map 0 8192 order.K4 perm_rw_u)) ∷
    (step.Own (event.Map 0 12288 order.K4 perm_rw_u)) ∷
    (step.Own (event.Unmap 0 4096 order.K4)) ∷
    (step.Own (event.Protect 0 8192 order.K4 perm_r__u)) ∷
    (step.Own (event.Move 0 8192 36864 order.K4)) ∷
    (step.Own (event.Space 0)) ∷
    (step.Take 0) ∷
    (step.Own (event.Map 0 12288 order.K4 perm_rw_u)) ∷
    (step.Take 1) ∷
    (step.Own (event.Map 0 12288 order.K4 perm_rw_u)) ∷
    (step.Own (event.Unmap 0 12288 order.K4)) ∷ []

-- What is counted.
abbrev pub a_full_queue_figures : Figures
a_full_queue_figures = record {
  harts =
      (record no_hart_counts { taken = 1 })
      ∷ (record no_hart_counts { taken = 1 })
      ∷ [];
  all = record { accepted = 4; refused = 0 ∷ 0 ∷ 0 ∷ 0 ∷ 0 ∷ 0 ∷ 0 ∷ 0 ∷ 0 ∷ 6 ∷ 0 ∷ 0 ∷ []; waiting = 4; held = 0 };
}

-- A take of an empty queue is refused, whatever the other hart's queue holds.
abbrev pub an_empty_queue_spec : HartSpec
an_empty_queue_spec = record { harts = 2; queue = 3; frames = 8; nodes = 16; spaces = 1; sets = 1 }

-- What is served.
abbrev pub an_empty_queue_events : List HartEvent
an_empty_queue_events =
    (step.Take 0) ∷
    (step.Own (event.Map 0 4096 order.K4 perm_rw_u)) ∷
    (step.Take 0) ∷
    (step.Take 0) ∷
    (step.Take 1) ∷
    (step.Take 1) ∷
    (step.Own (event.Unmap 0 4096 order.K4)) ∷
    (step.Take 1) ∷
    (step.Take 1) ∷
    (step.Take 0) ∷ []

-- What is counted.
abbrev pub an_empty_queue_figures : Figures
an_empty_queue_figures = record {
  harts =
      (record no_hart_counts { taken = 2 })
      ∷ (record no_hart_counts { taken = 2 })
      ∷ [];
  all = record { accepted = 2; refused = 0 ∷ 0 ∷ 0 ∷ 0 ∷ 0 ∷ 0 ∷ 0 ∷ 0 ∷ 0 ∷ 0 ∷ 4 ∷ 0 ∷ []; waiting = 0; held = 0 };
}

-- A hart that isn't there is neither chosen nor takes, and the current one stays.
abbrev pub no_such_hart_spec : HartSpec
no_such_hart_spec = record { harts = 2; queue = 2; frames = 8; nodes = 16; spaces = 1; sets = 1 }

-- What is served.
abbrev pub no_such_hart_events : List HartEvent
no_such_hart_events =
    (step.Hart 2) ∷
    (step.Take 2) ∷
    (step.Hart 65535) ∷
    (step.Take 65535) ∷
    (step.Hart 1) ∷
    (step.Take 1) ∷
    (step.Own (event.Map 0 4096 order.K4 perm_rw_u)) ∷
    (step.Take 2) ∷
    (step.Hart 2) ∷
    (step.Own (event.Access 4096 kind.Load)) ∷
    (step.Take 1) ∷ []

-- What is counted.
abbrev pub no_such_hart_figures : Figures
no_such_hart_figures = record {
  harts =
      (no_hart_counts)
      ∷ (record no_hart_counts { accesses = 1; ok = 1; misses = 1; reads = 3; taken = 1 })
      ∷ [];
  all = record { accepted = 1; refused = 0 ∷ 0 ∷ 0 ∷ 0 ∷ 0 ∷ 0 ∷ 0 ∷ 0 ∷ 0 ∷ 0 ∷ 1 ∷ 6 ∷ []; waiting = 1; held = 0 };
}

-- Two harts, and the frames of one block of 4 KiB: the block is held back until the second has
-- taken the unmap.
abbrev pub a_block_of_4k_held_back_spec : HartSpec
a_block_of_4k_held_back_spec = record { harts = 2; queue = 4; frames = 1; nodes = 16; spaces = 1; sets = 1 }

-- What is served.
abbrev pub a_block_of_4k_held_back_events : List HartEvent
a_block_of_4k_held_back_events =
    (step.Own (event.Map 0 4096 order.K4 perm_rw_u)) ∷
    (step.Own (event.Access 4096 kind.Load)) ∷
    (step.Hart 1) ∷
    (step.Own (event.Access 4096 kind.Load)) ∷
    (step.Own (event.Unmap 0 4096 order.K4)) ∷
    (step.Own (event.Map 0 8192 order.K4 perm_rw_u)) ∷
    (step.Take 0) ∷
    (step.Take 0) ∷
    (step.Own (event.Map 0 8192 order.K4 perm_rw_u)) ∷
    (step.Own (event.Access 4096 kind.Store)) ∷
    (step.Take 1) ∷
    (step.Own (event.Map 0 8192 order.K4 perm_rw_u)) ∷
    (step.Take 1) ∷
    (step.Own (event.Map 0 8192 order.K4 perm_rw_u)) ∷
    (step.Own (event.Access 4096 kind.Load)) ∷
    (step.Own (event.Access 8192 kind.Load)) ∷ []

-- What is counted.
abbrev pub a_block_of_4k_held_back_figures : Figures
a_block_of_4k_held_back_figures = record {
  harts =
      (record no_hart_counts { accesses = 1; ok = 1; misses = 1; reads = 3; taken = 2; invalidated = 1 })
      ∷ (record no_hart_counts { accesses = 4; ok = 3; unmapped = 1; hits = 1; misses = 3; reads = 9; taken = 2; invalidated = 1 })
      ∷ [];
  all = record { accepted = 3; refused = 0 ∷ 0 ∷ 0 ∷ 0 ∷ 0 ∷ 0 ∷ 3 ∷ 0 ∷ 0 ∷ 0 ∷ 0 ∷ 0 ∷ []; waiting = 2; held = 0 };
}

-- Two harts, and the frames of one block of 2 MiB: the block is held back until the second has
-- taken the unmap.
abbrev pub a_block_of_2m_held_back_spec : HartSpec
a_block_of_2m_held_back_spec = record { harts = 2; queue = 4; frames = 512; nodes = 16; spaces = 1; sets = 1 }

-- What is served.
abbrev pub a_block_of_2m_held_back_events : List HartEvent
a_block_of_2m_held_back_events =
    (step.Own (event.Map 0 2097152 order.M2 perm_rw_u)) ∷
    (step.Own (event.Access 2097152 kind.Load)) ∷
    (step.Hart 1) ∷
    (step.Own (event.Access 2097152 kind.Load)) ∷
    (step.Own (event.Unmap 0 2097152 order.M2)) ∷
    (step.Own (event.Map 0 4194304 order.M2 perm_rw_u)) ∷
    (step.Take 0) ∷
    (step.Take 0) ∷
    (step.Own (event.Map 0 4194304 order.M2 perm_rw_u)) ∷
    (step.Own (event.Access 2097152 kind.Store)) ∷
    (step.Take 1) ∷
    (step.Own (event.Map 0 4194304 order.M2 perm_rw_u)) ∷
    (step.Take 1) ∷
    (step.Own (event.Map 0 4194304 order.M2 perm_rw_u)) ∷
    (step.Own (event.Access 2097152 kind.Load)) ∷
    (step.Own (event.Access 4194304 kind.Load)) ∷ []

-- What is counted.
abbrev pub a_block_of_2m_held_back_figures : Figures
a_block_of_2m_held_back_figures = record {
  harts =
      (record no_hart_counts { accesses = 1; ok = 1; misses = 1; reads = 2; taken = 2; invalidated = 1 })
      ∷ (record no_hart_counts { accesses = 4; ok = 3; unmapped = 1; hits = 1; misses = 3; reads = 6; taken = 2; invalidated = 1 })
      ∷ [];
  all = record { accepted = 3; refused = 0 ∷ 0 ∷ 0 ∷ 0 ∷ 0 ∷ 0 ∷ 3 ∷ 0 ∷ 0 ∷ 0 ∷ 0 ∷ 0 ∷ []; waiting = 2; held = 0 };
}

-- Two harts, and the frames of one block of 1 GiB: the block is held back until the second has
-- taken the unmap.
abbrev pub a_block_of_1g_held_back_spec : HartSpec
a_block_of_1g_held_back_spec = record { harts = 2; queue = 4; frames = 262144; nodes = 16; spaces = 1; sets = 1 }

-- What is served.
abbrev pub a_block_of_1g_held_back_events : List HartEvent
a_block_of_1g_held_back_events =
    (step.Own (event.Map 0 1073741824 order.G1 perm_rw_u)) ∷
    (step.Own (event.Access 1073741824 kind.Load)) ∷
    (step.Hart 1) ∷
    (step.Own (event.Access 1073741824 kind.Load)) ∷
    (step.Own (event.Unmap 0 1073741824 order.G1)) ∷
    (step.Own (event.Map 0 2147483648 order.G1 perm_rw_u)) ∷
    (step.Take 0) ∷
    (step.Take 0) ∷
    (step.Own (event.Map 0 2147483648 order.G1 perm_rw_u)) ∷
    (step.Own (event.Access 1073741824 kind.Store)) ∷
    (step.Take 1) ∷
    (step.Own (event.Map 0 2147483648 order.G1 perm_rw_u)) ∷
    (step.Take 1) ∷
    (step.Own (event.Map 0 2147483648 order.G1 perm_rw_u)) ∷
    (step.Own (event.Access 1073741824 kind.Load)) ∷
    (step.Own (event.Access 2147483648 kind.Load)) ∷ []

-- What is counted.
abbrev pub a_block_of_1g_held_back_figures : Figures
a_block_of_1g_held_back_figures = record {
  harts =
      (record no_hart_counts { accesses = 1; ok = 1; misses = 1; reads = 1; taken = 2; invalidated = 1 })
      ∷ (record no_hart_counts { accesses = 4; ok = 3; unmapped = 1; hits = 1; misses = 3; reads = 3; taken = 2; invalidated = 1 })
      ∷ [];
  all = record { accepted = 3; refused = 0 ∷ 0 ∷ 0 ∷ 0 ∷ 0 ∷ 0 ∷ 3 ∷ 0 ∷ 0 ∷ 0 ∷ 0 ∷ 0 ∷ []; waiting = 2; held = 0 };
}

-- A protect that one hart sees and the other doesn't, until it takes: a store is allowed, denied,
-- then denied.
abbrev pub a_protect_seen_old_and_new_spec : HartSpec
a_protect_seen_old_and_new_spec = record { harts = 2; queue = 4; frames = 4; nodes = 16; spaces = 1; sets = 1 }

-- What is served.
abbrev pub a_protect_seen_old_and_new_events : List HartEvent
a_protect_seen_old_and_new_events =
    (step.Own (event.Map 0 4096 order.K4 perm_rw_u)) ∷
    (step.Own (event.Access 4096 kind.Store)) ∷
    (step.Own (event.Protect 0 4096 order.K4 perm_r__u)) ∷
    (step.Own (event.Access 4104 kind.Store)) ∷
    (step.Hart 1) ∷
    (step.Own (event.Access 4104 kind.Store)) ∷
    (step.Hart 0) ∷
    (step.Take 0) ∷
    (step.Own (event.Access 4112 kind.Store)) ∷
    (step.Take 0) ∷
    (step.Own (event.Access 4120 kind.Store)) ∷ []

-- What is counted.
abbrev pub a_protect_seen_old_and_new_figures : Figures
a_protect_seen_old_and_new_figures = record {
  harts =
      (record no_hart_counts { accesses = 4; ok = 3; denied = 1; hits = 2; misses = 2; reads = 6; taken = 2; invalidated = 1; pasum = 24 })
      ∷ (record no_hart_counts { accesses = 1; denied = 1; misses = 1; reads = 3 })
      ∷ [];
  all = record { accepted = 2; refused = no_refusals; waiting = 2; held = 0 };
}

-- A move: the hart that read the page still reads it at its old place, the other at its new place
-- alone.
abbrev pub a_move_seen_old_and_new_spec : HartSpec
a_move_seen_old_and_new_spec = record { harts = 2; queue = 4; frames = 4; nodes = 16; spaces = 1; sets = 1 }

-- What is served.
abbrev pub a_move_seen_old_and_new_events : List HartEvent
a_move_seen_old_and_new_events =
    (step.Own (event.Map 0 4096 order.K4 perm_rw_u)) ∷
    (step.Own (event.Access 4096 kind.Load)) ∷
    (step.Own (event.Move 0 4096 20480 order.K4)) ∷
    (step.Own (event.Access 4104 kind.Load)) ∷
    (step.Own (event.Access 20488 kind.Load)) ∷
    (step.Hart 1) ∷
    (step.Own (event.Access 4104 kind.Load)) ∷
    (step.Own (event.Access 20488 kind.Load)) ∷
    (step.Hart 0) ∷
    (step.Take 0) ∷
    (step.Take 0) ∷
    (step.Own (event.Access 4112 kind.Load)) ∷
    (step.Own (event.Access 20496 kind.Load)) ∷ []

-- What is counted.
abbrev pub a_move_seen_old_and_new_figures : Figures
a_move_seen_old_and_new_figures = record {
  harts =
      (record no_hart_counts { accesses = 5; ok = 4; unmapped = 1; hits = 2; misses = 3; reads = 9; taken = 2; invalidated = 1; pasum = 32 })
      ∷ (record no_hart_counts { accesses = 2; ok = 1; unmapped = 1; misses = 2; reads = 6; pasum = 8 })
      ∷ [];
  all = record { accepted = 2; refused = no_refusals; waiting = 2; held = 0 };
}

-- A store that an older leaf allows and the mapping denies.
abbrev pub denied_in_the_mapping_spec : HartSpec
denied_in_the_mapping_spec = record { harts = 1; queue = 4; frames = 4; nodes = 16; spaces = 1; sets = 1 }

-- What is served.
abbrev pub denied_in_the_mapping_events : List HartEvent
denied_in_the_mapping_events =
    (step.Own (event.Map 0 4096 order.K4 perm_rw_u)) ∷
    (step.Own (event.Access 4096 kind.Load)) ∷
    (step.Own (event.Protect 0 4096 order.K4 perm_r__u)) ∷
    (step.Own (event.Access 4096 kind.Store)) ∷
    (step.Own (event.Access 4096 kind.Load)) ∷
    (step.Take 0) ∷
    (step.Take 0) ∷
    (step.Own (event.Access 4096 kind.Store)) ∷
    (step.Own (event.Access 4096 kind.Load)) ∷ []

-- What is counted.
abbrev pub denied_in_the_mapping_figures : Figures
denied_in_the_mapping_figures = record {
  harts =
      (record no_hart_counts { accesses = 5; ok = 4; denied = 1; hits = 3; misses = 2; reads = 6; taken = 2; invalidated = 1 })
      ∷ [];
  all = record { accepted = 2; refused = no_refusals; waiting = 0; held = 0 };
}

-- A store that an older leaf denies and the mapping allows.
abbrev pub denied_by_an_older_leaf_spec : HartSpec
denied_by_an_older_leaf_spec = record { harts = 2; queue = 4; frames = 4; nodes = 16; spaces = 1; sets = 1 }

-- What is served.
abbrev pub denied_by_an_older_leaf_events : List HartEvent
denied_by_an_older_leaf_events =
    (step.Own (event.Map 0 4096 order.K4 perm_r__u)) ∷
    (step.Own (event.Access 4096 kind.Load)) ∷
    (step.Own (event.Protect 0 4096 order.K4 perm_rw_u)) ∷
    (step.Own (event.Access 4096 kind.Store)) ∷
    (step.Hart 1) ∷
    (step.Own (event.Access 4104 kind.Store)) ∷
    (step.Take 0) ∷
    (step.Take 0) ∷
    (step.Hart 0) ∷
    (step.Own (event.Access 4112 kind.Store)) ∷ []

-- What is counted.
abbrev pub denied_by_an_older_leaf_figures : Figures
denied_by_an_older_leaf_figures = record {
  harts =
      (record no_hart_counts { accesses = 3; ok = 2; denied = 1; hits = 1; misses = 2; reads = 6; taken = 2; invalidated = 1; pasum = 16 })
      ∷ (record no_hart_counts { accesses = 1; ok = 1; misses = 1; reads = 3; pasum = 8 })
      ∷ [];
  all = record { accepted = 2; refused = no_refusals; waiting = 2; held = 0 };
}

-- A space is switched for one hart alone, and is no request.
abbrev pub a_space_of_one_hart_spec : HartSpec
a_space_of_one_hart_spec = record { harts = 2; queue = 4; frames = 4; nodes = 16; spaces = 2; sets = 1 }

-- What is served.
abbrev pub a_space_of_one_hart_events : List HartEvent
a_space_of_one_hart_events =
    (step.Own (event.Map 1 4096 order.K4 perm_rw_u)) ∷
    (step.Own (event.Space 1)) ∷
    (step.Own (event.Access 4096 kind.Load)) ∷
    (step.Hart 1) ∷
    (step.Own (event.Access 4104 kind.Load)) ∷
    (step.Own (event.Space 2)) ∷
    (step.Take 1) ∷
    (step.Take 1) ∷
    (step.Hart 0) ∷
    (step.Own (event.Access 4112 kind.Load)) ∷
    (step.Own (event.Space 0)) ∷
    (step.Own (event.Access 4120 kind.Load)) ∷ []

-- What is counted.
abbrev pub a_space_of_one_hart_figures : Figures
a_space_of_one_hart_figures = record {
  harts =
      (record no_hart_counts { accesses = 3; ok = 2; unmapped = 1; hits = 1; misses = 2; reads = 4; pasum = 16 })
      ∷ (record no_hart_counts { accesses = 1; unmapped = 1; misses = 1; reads = 1; taken = 1 })
      ∷ [];
  all = record { accepted = 3; refused = 1 ∷ 0 ∷ 0 ∷ 0 ∷ 0 ∷ 0 ∷ 0 ∷ 0 ∷ 0 ∷ 0 ∷ 1 ∷ 0 ∷ []; waiting = 1; held = 0 };
}

-- A take of an unmap leaves an entry of the same page in another frame.
abbrev pub another_frame_stays_spec : HartSpec
another_frame_stays_spec = record { harts = 1; queue = 4; frames = 4; nodes = 16; spaces = 1; sets = 1 }

-- What is served.
abbrev pub another_frame_stays_events : List HartEvent
another_frame_stays_events =
    (step.Own (event.Map 0 4096 order.K4 perm_rw_u)) ∷
    (step.Own (event.Unmap 0 4096 order.K4)) ∷
    (step.Own (event.Map 0 4096 order.K4 perm_rw_u)) ∷
    (step.Own (event.Access 4096 kind.Load)) ∷
    (step.Take 0) ∷
    (step.Take 0) ∷
    (step.Own (event.Access 4104 kind.Load)) ∷
    (step.Take 0) ∷
    (step.Own (event.Unmap 0 4096 order.K4)) ∷
    (step.Take 0) ∷
    (step.Own (event.Access 4112 kind.Load)) ∷ []

-- What is counted.
abbrev pub another_frame_stays_figures : Figures
another_frame_stays_figures = record {
  harts =
      (record no_hart_counts { accesses = 3; ok = 2; unmapped = 1; hits = 1; misses = 2; reads = 4; taken = 4; invalidated = 1; pasum = 8200 })
      ∷ [];
  all = record { accepted = 4; refused = no_refusals; waiting = 0; held = 0 };
}

-- A take of a protect leaves an entry of the same page with another permission.
abbrev pub another_permission_stays_spec : HartSpec
another_permission_stays_spec = record { harts = 1; queue = 4; frames = 4; nodes = 16; spaces = 1; sets = 1 }

-- What is served.
abbrev pub another_permission_stays_events : List HartEvent
another_permission_stays_events =
    (step.Own (event.Map 0 4096 order.K4 perm_r__u)) ∷
    (step.Own (event.Protect 0 4096 order.K4 perm_rw_u)) ∷
    (step.Own (event.Access 4096 kind.Store)) ∷
    (step.Take 0) ∷
    (step.Take 0) ∷
    (step.Own (event.Access 4104 kind.Store)) ∷
    (step.Own (event.Protect 0 4096 order.K4 perm_rw_u)) ∷
    (step.Take 0) ∷
    (step.Own (event.Access 4112 kind.Store)) ∷ []

-- What is counted.
abbrev pub another_permission_stays_figures : Figures
another_permission_stays_figures = record {
  harts =
      (record no_hart_counts { accesses = 3; ok = 3; hits = 1; misses = 2; reads = 6; taken = 3; invalidated = 1; pasum = 24 })
      ∷ [];
  all = record { accepted = 3; refused = no_refusals; waiting = 0; held = 0 };
}

-- Two blocks of 2 MiB and a page are held back, and given back one after another.
abbrev pub frames_held_of_two_blocks_spec : HartSpec
frames_held_of_two_blocks_spec = record { harts = 2; queue = 8; frames = 1025; nodes = 16; spaces = 1; sets = 1 }

-- What is served.
abbrev pub frames_held_of_two_blocks_events : List HartEvent
frames_held_of_two_blocks_events =
    (step.Own (event.Map 0 2097152 order.M2 perm_rw_u)) ∷
    (step.Own (event.Map 0 4194304 order.M2 perm_rw_u)) ∷
    (step.Own (event.Map 0 4096 order.K4 perm_rw_u)) ∷
    (step.Own (event.Unmap 0 4194304 order.M2)) ∷
    (step.Own (event.Unmap 0 2097152 order.M2)) ∷
    (step.Own (event.Unmap 0 4096 order.K4)) ∷
    (step.Take 0) ∷
    (step.Take 0) ∷
    (step.Take 0) ∷
    (step.Take 0) ∷
    (step.Take 1) ∷
    (step.Take 1) ∷
    (step.Take 1) ∷
    (step.Take 1) ∷
    (step.Own (event.Map 0 6291456 order.M2 perm_rw_u)) ∷
    (step.Own (event.Map 0 8388608 order.M2 perm_rw_u)) ∷
    (step.Own (event.Map 0 8192 order.K4 perm_rw_u)) ∷
    (step.Take 1) ∷
    (step.Own (event.Map 0 8192 order.K4 perm_rw_u)) ∷
    (step.Own (event.Access 6291456 kind.Load)) ∷
    (step.Own (event.Access 8192 kind.Load)) ∷ []

-- What is counted.
abbrev pub frames_held_of_two_blocks_figures : Figures
frames_held_of_two_blocks_figures = record {
  harts =
      (record no_hart_counts { accesses = 2; ok = 1; unmapped = 1; misses = 2; reads = 4; taken = 4; pasum = 2097152 })
      ∷ (record no_hart_counts { taken = 5 })
      ∷ [];
  all = record { accepted = 7; refused = 0 ∷ 0 ∷ 0 ∷ 0 ∷ 0 ∷ 0 ∷ 3 ∷ 0 ∷ 0 ∷ 0 ∷ 0 ∷ 0 ∷ []; waiting = 5; held = 513 };
}

-- The same in mixed order, and a hart that reads the page anew between its two takes.
abbrev pub eight_harts_in_mixed_order_spec : HartSpec
eight_harts_in_mixed_order_spec = record { harts = 8; queue = 4; frames = 2; nodes = 16; spaces = 1; sets = 1 }

-- What is served.
abbrev pub eight_harts_in_mixed_order_events : List HartEvent
eight_harts_in_mixed_order_events =
    (step.Own (event.Map 0 4096 order.K4 perm_rw_u)) ∷
    (step.Hart 5) ∷
    (step.Own (event.Access 4104 kind.Load)) ∷
    (step.Own (event.Unmap 0 4096 order.K4)) ∷
    (step.Take 3) ∷
    (step.Take 0) ∷
    (step.Take 6) ∷
    (step.Take 1) ∷
    (step.Take 7) ∷
    (step.Take 2) ∷
    (step.Take 5) ∷
    (step.Take 4) ∷
    (step.Own (event.Access 4112 kind.Load)) ∷
    (step.Own (event.Map 0 4096 order.K4 perm_rw_u)) ∷
    (step.Take 5) ∷
    (step.Own (event.Access 4120 kind.Load)) ∷
    (step.Take 1) ∷
    (step.Take 4) ∷
    (step.Take 0) ∷
    (step.Take 7) ∷
    (step.Take 2) ∷
    (step.Take 6) ∷
    (step.Own (event.Map 0 8192 order.K4 perm_rw_u)) ∷
    (step.Take 3) ∷
    (step.Own (event.Map 0 8192 order.K4 perm_rw_u)) ∷
    (step.Own (event.Access 8200 kind.Load)) ∷ []

-- What is counted.
abbrev pub eight_harts_in_mixed_order_figures : Figures
eight_harts_in_mixed_order_figures = record {
  harts =
      (record no_hart_counts { taken = 2 })
      ∷ (record no_hart_counts { taken = 2 })
      ∷ (record no_hart_counts { taken = 2 })
      ∷ (record no_hart_counts { taken = 2 })
      ∷ (record no_hart_counts { taken = 2 })
      ∷ (record no_hart_counts { accesses = 4; ok = 4; hits = 1; misses = 3; reads = 9; taken = 2; invalidated = 1; pasum = 4152 })
      ∷ (record no_hart_counts { taken = 2 })
      ∷ (record no_hart_counts { taken = 2 })
      ∷ [];
  all = record { accepted = 4; refused = 0 ∷ 0 ∷ 0 ∷ 0 ∷ 0 ∷ 0 ∷ 1 ∷ 0 ∷ 0 ∷ 0 ∷ 0 ∷ 0 ∷ []; waiting = 16; held = 0 };
}

-- Each refusal where later ones hold too: 1, 2, 3, 6 and 7 of a map, 4 and 5 of an unmap, 4, 6, 8
-- and 10 of a move.
abbrev pub refusals_in_their_order_spec : HartSpec
refusals_in_their_order_spec = record { harts = 1; queue = 3; frames = 3; nodes = 3; spaces = 1; sets = 1 }

-- What is served.
abbrev pub refusals_in_their_order_events : List HartEvent
refusals_in_their_order_events =
    (step.Own (event.Map 0 0 order.K4 perm_rw_u)) ∷
    (step.Own (event.Map 0 4096 order.K4 perm_rw_u)) ∷
    (step.Own (event.Map 0 8192 order.K4 perm_rw_u)) ∷
    (step.Own (event.Map 1 274877906945 order.K4 perm_rw_u)) ∷
    (step.Own (event.Map 0 274877906945 order.K4 perm_rw_u)) ∷
    (step.Own (event.Map 0 4097 order.K4 perm_rw_u)) ∷
    (step.Own (event.Map 0 8192 order.K4 perm_rw_u)) ∷
    (step.Own (event.Map 0 1073741824 order.K4 perm_rw_u)) ∷
    (step.Own (event.Unmap 0 12288 order.K4)) ∷
    (step.Own (event.Unmap 0 0 order.M2)) ∷
    (step.Own (event.Move 0 12288 8192 order.K4)) ∷
    (step.Own (event.Move 0 4096 8192 order.K4)) ∷
    (step.Own (event.Move 0 4096 1073741824 order.K4)) ∷
    (step.Own (event.Move 0 4096 16384 order.K4)) ∷
    (step.Take 1) ∷
    (step.Hart 1) ∷
    (step.Take 0) ∷
    (step.Take 0) ∷
    (step.Take 0) ∷
    (step.Take 0) ∷ []

-- What is counted.
abbrev pub refusals_in_their_order_figures : Figures
refusals_in_their_order_figures = record {
  harts =
      (record no_hart_counts { taken = 3 })
      ∷ [];
  all = record { accepted = 3; refused = 1 ∷ 1 ∷ 1 ∷ 2 ∷ 1 ∷ 2 ∷ 1 ∷ 1 ∷ 0 ∷ 1 ∷ 1 ∷ 2 ∷ []; waiting = 0; held = 0 };
}

-- A full queue and a table without room: a map and a move into another root entry are refused for
-- the room.
abbrev pub room_comes_before_the_queue_spec : HartSpec
room_comes_before_the_queue_spec = record { harts = 1; queue = 1; frames = 4; nodes = 3; spaces = 1; sets = 1 }

-- What is served.
abbrev pub room_comes_before_the_queue_events : List HartEvent
room_comes_before_the_queue_events =
    (step.Own (event.Map 0 4096 order.K4 perm_rw_u)) ∷
    (step.Own (event.Map 0 1073741824 order.K4 perm_rw_u)) ∷
    (step.Own (event.Map 0 8192 order.K4 perm_rw_u)) ∷
    (step.Own (event.Move 0 4096 1073741824 order.K4)) ∷
    (step.Own (event.Move 0 4096 8192 order.K4)) ∷
    (step.Own (event.Unmap 0 4096 order.K4)) ∷
    (step.Take 0) ∷
    (step.Own (event.Map 0 1073741824 order.K4 perm_rw_u)) ∷
    (step.Own (event.Map 0 8192 order.K4 perm_rw_u)) ∷ []

-- What is counted.
abbrev pub room_comes_before_the_queue_figures : Figures
room_comes_before_the_queue_figures = record {
  harts =
      (record no_hart_counts { taken = 1 })
      ∷ [];
  all = record { accepted = 2; refused = 0 ∷ 0 ∷ 0 ∷ 0 ∷ 0 ∷ 0 ∷ 0 ∷ 3 ∷ 0 ∷ 3 ∷ 0 ∷ 0 ∷ []; waiting = 1; held = 0 };
}

-- One set of eight ways. Pages 1 to 8 are read, and page 1 again: eight misses of 3 loads each, and a hit. Page 9 takes the place
-- of page 2, which is the oldest, and so page 2 misses. Frames 0 to 7, 0, 8 and 1 are 37 frames of 4096 bytes. The nine maps wait.
abbrev pub nine_leaves_in_eight_ways_spec : HartSpec
nine_leaves_in_eight_ways_spec = record { harts = 1; queue = 16; frames = 16; nodes = 16; spaces = 1; sets = 1 }

-- What is served.
abbrev pub nine_leaves_in_eight_ways_events : List HartEvent
nine_leaves_in_eight_ways_events =
    (step.Own (event.Map 0 4096 order.K4 perm_rw_u)) ∷
    (step.Own (event.Map 0 8192 order.K4 perm_rw_u)) ∷
    (step.Own (event.Map 0 12288 order.K4 perm_rw_u)) ∷
    (step.Own (event.Map 0 16384 order.K4 perm_rw_u)) ∷
    (step.Own (event.Map 0 20480 order.K4 perm_rw_u)) ∷
    (step.Own (event.Map 0 24576 order.K4 perm_rw_u)) ∷
    (step.Own (event.Map 0 28672 order.K4 perm_rw_u)) ∷
    (step.Own (event.Map 0 32768 order.K4 perm_rw_u)) ∷
    (step.Own (event.Map 0 36864 order.K4 perm_rw_u)) ∷
    (step.Own (event.Access 4096 kind.Load)) ∷
    (step.Own (event.Access 8192 kind.Load)) ∷
    (step.Own (event.Access 12288 kind.Load)) ∷
    (step.Own (event.Access 16384 kind.Load)) ∷
    (step.Own (event.Access 20480 kind.Load)) ∷
    (step.Own (event.Access 24576 kind.Load)) ∷
    (step.Own (event.Access 28672 kind.Load)) ∷
    (step.Own (event.Access 32768 kind.Load)) ∷
    (step.Own (event.Access 4096 kind.Load)) ∷
    (step.Own (event.Access 36864 kind.Load)) ∷
    (step.Own (event.Access 8192 kind.Load)) ∷ []

-- What is counted.
abbrev pub nine_leaves_in_eight_ways_figures : Figures
nine_leaves_in_eight_ways_figures = record {
  harts = (record no_hart_counts { accesses = 11; ok = 11; hits = 1; misses = 10; reads = 30; pasum = 151552 }) ∷ [];
  all = record { accepted = 9; refused = no_refusals; waiting = 9; held = 0 };
}

-- An address that isn't canonical, 2^38, and an unmapped one, whose walk is the load of the root's
-- empty word.
abbrev pub an_address_that_is_not_canonical_spec : HartSpec
an_address_that_is_not_canonical_spec = record { harts = 1; queue = 4; frames = 4; nodes = 16; spaces = 1; sets = 1 }

-- What is served.
abbrev pub an_address_that_is_not_canonical_events : List HartEvent
an_address_that_is_not_canonical_events =
    (step.Own (event.Access 274877906944 kind.Load)) ∷
    (step.Own (event.Access 4096 kind.Load)) ∷ []

-- What is counted.
abbrev pub an_address_that_is_not_canonical_figures : Figures
an_address_that_is_not_canonical_figures = record {
  harts = (record no_hart_counts { accesses = 2; unmapped = 1; not_canonical = 1; misses = 1; reads = 1 }) ∷ [];
  all = record { accepted = 0; refused = no_refusals; waiting = 0; held = 0 };
}
