-- The G cache.
use Rattle.std.specs.Prelude.{ℕ, zero, suc, ◌+◌, ◌*◌, List, ◌++◌, [], ◌∷◌}
use Rattle.xl_model.specs.declared.address.Kind.TheVariants as kind
use Rattle.xl_model.specs.declared.address.Order.TheVariants as order
use Rattle.xl_nested_model.specs.declared.nest.NestEvent.{NestEvent}
use Rattle.xl_nested_model.specs.declared.nest.NestEvent.TheVariants as event
use Rattle.xl_nested_model.specs.declared.nest.NestOutcome.{NestOutcome}
use Rattle.xl_nested_model.specs.declared.nest.NestOutcome.TheVariants as outcome
use Rattle.xl_nested_model.specs.declared.nest.NestReply.TheVariants as reply
use Rattle.xl_nested_rows.specs.Row.{NestRow, perm_r__u, perm_rw_u}

-- A GUNMAP removes its leaf from the G cache.
abbrev pub unmap_leaves_the_cache_row : NestRow
unmap_leaves_the_cache_row = record {
  nest = record { base = 256; nodes = 4; frames = 8; g_nodes = 64; g_cache = 8 };
  events =
      (event.GMap 1048576 order.K4 perm_rw_u) ∷
      (event.VMap 0 order.G1 0 perm_r__u) ∷
      (event.GMap 0 order.K4 perm_r__u) ∷
      (event.Access 0 kind.Load) ∷
      (event.GUnmap 0 order.K4) ∷
      (event.Access 0 kind.Load) ∷ [];
  outcomes =
      outcome.Done ∷
      outcome.Done ∷
      outcome.Done ∷
      (outcome.Replied (reply.Frame 1)) ∷
      outcome.Done ∷
      (outcome.Replied reply.GuestFault) ∷ [];
  counts = record {
    accesses = 2;
    ok = 1;
    page_faults = 0;
    guest_faults = 1;
    accepted = 4;
    refused = 0 ∷ 0 ∷ 0 ∷ 0 ∷ 0 ∷ 0 ∷ [];
    reads = 11;
    hits = 1;
    pasum = 4096;
  };
}

-- Pages of the host are unmapped and mapped again while the G cache holds others.
abbrev pub mapped_again_under_the_cache_row : NestRow
mapped_again_under_the_cache_row = record {
  nest = record { base = 0; nodes = 4; frames = 1024; g_nodes = 64; g_cache = 8 };
  events =
      (event.GMap 0 order.K4 perm_rw_u) ∷
      (event.GMap 4096 order.K4 perm_rw_u) ∷
      (event.GMap 8192 order.K4 perm_rw_u) ∷
      (event.GMap 65536 order.K4 perm_rw_u) ∷
      (event.GMap 131072 order.K4 perm_rw_u) ∷
      (event.VMap 20480 order.K4 65536 perm_rw_u) ∷
      (event.Access 20480 kind.Load) ∷
      (event.Access 20488 kind.Store) ∷
      (event.GUnmap 131072 order.K4) ∷
      (event.GUnmap 65536 order.K4) ∷
      (event.GMap 131072 order.K4 perm_r__u) ∷
      (event.GMap 65536 order.K4 perm_r__u) ∷
      (event.Access 20480 kind.Load) ∷
      (event.Access 20480 kind.Store) ∷
      (event.VUnmap 20480 order.K4) ∷
      (event.Access 20480 kind.Load) ∷
      (event.VMap 20480 order.K4 131072 perm_rw_u) ∷
      (event.Access 20480 kind.Load) ∷
      (event.Access 20480 kind.Store) ∷ [];
  outcomes =
      outcome.Done ∷
      outcome.Done ∷
      outcome.Done ∷
      outcome.Done ∷
      outcome.Done ∷
      outcome.Done ∷
      (outcome.Replied (reply.Frame 3)) ∷
      (outcome.Replied (reply.Frame 3)) ∷
      outcome.Done ∷
      outcome.Done ∷
      outcome.Done ∷
      outcome.Done ∷
      (outcome.Replied (reply.Frame 4)) ∷
      (outcome.Replied reply.GuestFault) ∷
      outcome.Done ∷
      (outcome.Replied reply.PageFault) ∷
      outcome.Done ∷
      (outcome.Replied (reply.Frame 3)) ∷
      (outcome.Replied reply.GuestFault) ∷ [];
  counts = record {
    accesses = 7;
    ok = 4;
    page_faults = 1;
    guest_faults = 2;
    accepted = 12;
    refused = 0 ∷ 0 ∷ 0 ∷ 0 ∷ 0 ∷ 0 ∷ [];
    reads = 37;
    hits = 19;
    pasum = 53256;
  };
}

-- A G cache of one leaf.
abbrev pub a_cache_of_one_row : NestRow
a_cache_of_one_row = record {
  nest = record { base = 64; nodes = 4; frames = 16; g_nodes = 64; g_cache = 1 };
  events =
      (event.GMap 262144 order.K4 perm_rw_u) ∷
      (event.GMap 266240 order.K4 perm_rw_u) ∷
      (event.GMap 270336 order.K4 perm_rw_u) ∷
      (event.GMap 0 order.K4 perm_rw_u) ∷
      (event.VMap 0 order.K4 0 perm_rw_u) ∷
      (event.Access 0 kind.Load) ∷
      (event.Access 0 kind.Load) ∷ [];
  outcomes =
      outcome.Done ∷
      outcome.Done ∷
      outcome.Done ∷
      outcome.Done ∷
      outcome.Done ∷
      (outcome.Replied (reply.Frame 3)) ∷
      (outcome.Replied (reply.Frame 3)) ∷ [];
  counts = record {
    accesses = 2;
    ok = 2;
    page_faults = 0;
    guest_faults = 0;
    accepted = 5;
    refused = 0 ∷ 0 ∷ 0 ∷ 0 ∷ 0 ∷ 0 ∷ [];
    reads = 30;
    hits = 0;
    pasum = 24576;
  };
}

-- A G cache of two leaves.
abbrev pub a_cache_of_two_row : NestRow
a_cache_of_two_row = record {
  nest = record { base = 64; nodes = 4; frames = 16; g_nodes = 64; g_cache = 2 };
  events =
      (event.GMap 262144 order.K4 perm_rw_u) ∷
      (event.GMap 266240 order.K4 perm_rw_u) ∷
      (event.GMap 270336 order.K4 perm_rw_u) ∷
      (event.GMap 0 order.K4 perm_rw_u) ∷
      (event.VMap 0 order.K4 0 perm_rw_u) ∷
      (event.VMap 4096 order.K4 270336 perm_rw_u) ∷
      (event.Access 4096 kind.Load) ∷
      (event.Access 4096 kind.Load) ∷
      (event.Access 0 kind.Load) ∷
      (event.Access 4096 kind.Load) ∷ [];
  outcomes =
      outcome.Done ∷
      outcome.Done ∷
      outcome.Done ∷
      outcome.Done ∷
      outcome.Done ∷
      outcome.Done ∷
      (outcome.Replied (reply.Frame 2)) ∷
      (outcome.Replied (reply.Frame 2)) ∷
      (outcome.Replied (reply.Frame 3)) ∷
      (outcome.Replied (reply.Frame 2)) ∷ [];
  counts = record {
    accesses = 4;
    ok = 4;
    page_faults = 0;
    guest_faults = 0;
    accepted = 6;
    refused = 0 ∷ 0 ∷ 0 ∷ 0 ∷ 0 ∷ 0 ∷ [];
    reads = 51;
    hits = 3;
    pasum = 36864;
  };
}

-- GUNMAP drops its own leaf from the G cache and no other; the guest's commands drop none.
abbrev pub gunmap_alone_drops_its_leaf_row : NestRow
gunmap_alone_drops_its_leaf_row = record {
  nest = record { base = 256; nodes = 4; frames = 1024; g_nodes = 64; g_cache = 8 };
  events =
      (event.GMap 1048576 order.K4 perm_rw_u) ∷
      (event.VMap 0 order.G1 0 perm_rw_u) ∷
      (event.GMap 0 order.K4 perm_rw_u) ∷
      (event.GMap 4096 order.K4 perm_rw_u) ∷
      (event.GMap 2097152 order.M2 perm_rw_u) ∷
      (event.Access 0 kind.Load) ∷
      (event.Access 4096 kind.Load) ∷
      (event.Access 2097152 kind.Load) ∷
      (event.VUnmap 0 order.G1) ∷
      (event.VMap 0 order.G1 0 perm_rw_u) ∷
      (event.Access 0 kind.Load) ∷
      (event.Access 4096 kind.Load) ∷
      (event.Access 2117632 kind.Load) ∷
      (event.GUnmap 4096 order.K4) ∷
      (event.Access 0 kind.Load) ∷
      (event.Access 4096 kind.Load) ∷
      (event.Access 2097152 kind.Load) ∷
      (event.GUnmap 2097152 order.M2) ∷
      (event.Access 2097152 kind.Load) ∷
      (event.Access 0 kind.Load) ∷ [];
  outcomes =
      outcome.Done ∷
      outcome.Done ∷
      outcome.Done ∷
      outcome.Done ∷
      outcome.Done ∷
      (outcome.Replied (reply.Frame 1)) ∷
      (outcome.Replied (reply.Frame 2)) ∷
      (outcome.Replied (reply.Frame 512)) ∷
      outcome.Done ∷
      outcome.Done ∷
      (outcome.Replied (reply.Frame 1)) ∷
      (outcome.Replied (reply.Frame 2)) ∷
      (outcome.Replied (reply.Frame 517)) ∷
      outcome.Done ∷
      (outcome.Replied (reply.Frame 1)) ∷
      (outcome.Replied reply.GuestFault) ∷
      (outcome.Replied (reply.Frame 512)) ∷
      outcome.Done ∷
      (outcome.Replied reply.GuestFault) ∷
      (outcome.Replied (reply.Frame 1)) ∷ [];
  counts = record {
    accesses = 11;
    ok = 9;
    page_faults = 0;
    guest_faults = 2;
    accepted = 9;
    refused = 0 ∷ 0 ∷ 0 ∷ 0 ∷ 0 ∷ 0 ∷ [];
    reads = 27;
    hits = 16;
    pasum = 6344704;
  };
}

-- A G cache of one leaf: one of 2 MiB that has nodes and data is hit, until a page elsewhere takes
-- its place.
abbrev pub a_cache_of_one_large_leaf_row : NestRow
a_cache_of_one_large_leaf_row = record {
  nest = record { base = 256; nodes = 4; frames = 1024; g_nodes = 64; g_cache = 1 };
  events =
      (event.GMap 0 order.M2 perm_rw_u) ∷
      (event.GMap 2097152 order.K4 perm_rw_u) ∷
      (event.VMap 0 order.G1 0 perm_rw_u) ∷
      (event.Access 0 kind.Load) ∷
      (event.Access 20480 kind.Load) ∷
      (event.Access 2097152 kind.Load) ∷
      (event.Access 28672 kind.Load) ∷ [];
  outcomes =
      outcome.Done ∷
      outcome.Done ∷
      outcome.Done ∷
      (outcome.Replied (reply.Frame 0)) ∷
      (outcome.Replied (reply.Frame 5)) ∷
      (outcome.Replied (reply.Frame 512)) ∷
      (outcome.Replied (reply.Frame 7)) ∷ [];
  counts = record {
    accesses = 4;
    ok = 4;
    page_faults = 0;
    guest_faults = 0;
    accepted = 3;
    refused = 0 ∷ 0 ∷ 0 ∷ 0 ∷ 0 ∷ 0 ∷ [];
    reads = 11;
    hits = 5;
    pasum = 2146304;
  };
}

-- GMAPs of n guest pages, from this one up.
abbrev pub maps_from : ℕ → ℕ → List NestEvent
maps_from g zero = []
maps_from g (suc n) = event.GMap (g * 4096) order.K4 perm_rw_u ∷ maps_from (suc g) n

-- Loads of n pages, from this one up.
abbrev pub loads_from : ℕ → ℕ → List NestEvent
loads_from page zero = []
loads_from page (suc n) = event.Access (page * 4096) kind.Load ∷ loads_from (suc page) n

-- Loads of n pages, down to page 0.
abbrev pub loads_back : ℕ → List NestEvent
loads_back zero = []
loads_back (suc n) = event.Access (n * 4096) kind.Load ∷ loads_back n

-- n commands that are done.
abbrev pub all_done : ℕ → List NestOutcome
all_done zero = []
all_done (suc n) = outcome.Done ∷ all_done n

-- n frames, from this one up.
abbrev pub frames_from : ℕ → ℕ → List NestOutcome
frames_from frame zero = []
frames_from frame (suc n) = outcome.Replied (reply.Frame frame) ∷ frames_from (suc frame) n

-- n frames, down to frame 1.
abbrev pub frames_back : ℕ → List NestOutcome
frames_back zero = []
frames_back (suc n) = outcome.Replied (reply.Frame (suc n)) ∷ frames_back n

-- A G cache of this width. The guest has one leaf of 1 GiB, in its root; the host has leaves of 4
-- KiB for the root and for `pages` pages. Each page is loaded in turn, and then each in the reverse
-- order. The last two numbers are the loads and the hits.
abbrev pub there_and_back : ℕ → ℕ → ℕ → ℕ → NestRow
there_and_back width pages reads hits = record {
  nest = record { base = 256; nodes = 4; frames = 64; g_nodes = 64; g_cache = width };
  events =
      event.GMap 1048576 order.K4 perm_rw_u ∷
      event.VMap 0 order.G1 0 perm_rw_u ∷
      (maps_from 0 pages ++ (loads_from 0 pages ++ loads_back pages));
  outcomes = all_done (2 + pages) ++ (frames_from 1 pages ++ frames_back pages);
  counts = record {
    accesses = 2 * pages;
    ok = 2 * pages;
    page_faults = 0;
    guest_faults = 0;
    accepted = 2 + pages;
    refused = 0 ∷ 0 ∷ 0 ∷ 0 ∷ 0 ∷ 0 ∷ [];
    reads = reads;
    hits = hits;
    pasum = pages * (1 + pages) * 4096;
  };
}
