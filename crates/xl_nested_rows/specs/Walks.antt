-- Walks through both stages, and the verdicts.
use Rattle.std.specs.Prelude.{[], ◌∷◌}
use Rattle.xl_model.specs.declared.address.Kind.TheVariants as kind
use Rattle.xl_model.specs.declared.address.Order.TheVariants as order
use Rattle.xl_nested_model.specs.declared.nest.NestEvent.TheVariants as event
use Rattle.xl_nested_model.specs.declared.nest.NestOutcome.TheVariants as outcome
use Rattle.xl_nested_model.specs.declared.nest.NestRefusal.TheVariants as refused
use Rattle.xl_nested_model.specs.declared.nest.NestReply.TheVariants as reply
use Rattle.xl_nested_rows.specs.Row.{NestRow, perm_r__u, perm_rw_u, perm_rwxu, perm___xu, perm_rwx_}

-- Fifteen loads: three nodes, each of them three loads of the host's table and one of the guest's,
-- and three for the page itself.
abbrev pub walks_of_both_row : NestRow
walks_of_both_row = record {
  nest = record { base = 256; nodes = 16; frames = 64; g_nodes = 64; g_cache = 0 };
  events =
      (event.GMap 1048576 order.K4 perm_rw_u) ∷
      (event.GMap 1052672 order.K4 perm_rw_u) ∷
      (event.GMap 1056768 order.K4 perm_rw_u) ∷
      (event.GMap 0 order.K4 perm_rwxu) ∷
      (event.VMap 4096 order.K4 0 perm_rw_u) ∷
      (event.Access 4104 kind.Load) ∷ [];
  outcomes =
      outcome.Done ∷
      outcome.Done ∷
      outcome.Done ∷
      outcome.Done ∷
      outcome.Done ∷
      (outcome.Replied (reply.Frame 3)) ∷ [];
  counts = record {
    accesses = 1;
    ok = 1;
    page_faults = 0;
    guest_faults = 0;
    accepted = 5;
    refused = 0 ∷ 0 ∷ 0 ∷ 0 ∷ 0 ∷ 0 ∷ [];
    reads = 15;
    hits = 0;
    pasum = 12296;
  };
}

-- First the host has no leaf for the last node, then it denies the store of the page: both have the
-- code of a store's guest-page fault.
abbrev pub store_denied_by_the_host_row : NestRow
store_denied_by_the_host_row = record {
  nest = record { base = 256; nodes = 16; frames = 64; g_nodes = 64; g_cache = 8 };
  events =
      (event.GMap 1048576 order.K4 perm_rw_u) ∷
      (event.GMap 1052672 order.K4 perm_rw_u) ∷
      (event.GMap 0 order.K4 perm_r__u) ∷
      (event.VMap 4096 order.K4 0 perm_rw_u) ∷
      (event.Access 4096 kind.Store) ∷
      (event.GMap 1056768 order.K4 perm_rw_u) ∷
      (event.Access 4096 kind.Store) ∷ [];
  outcomes =
      outcome.Done ∷
      outcome.Done ∷
      outcome.Done ∷
      outcome.Done ∷
      (outcome.Replied reply.GuestFault) ∷
      outcome.Done ∷
      (outcome.Replied reply.GuestFault) ∷ [];
  counts = record {
    accesses = 2;
    ok = 0;
    page_faults = 0;
    guest_faults = 2;
    accepted = 5;
    refused = 0 ∷ 0 ∷ 0 ∷ 0 ∷ 0 ∷ 0 ∷ [];
    reads = 20;
    hits = 2;
    pasum = 0;
  };
}

-- A store that the guest allows and the host denies; a fetch that the guest denies.
abbrev pub store_denied_over_a_1g_leaf_row : NestRow
store_denied_over_a_1g_leaf_row = record {
  nest = record { base = 0; nodes = 4; frames = 8; g_nodes = 64; g_cache = 0 };
  events =
      (event.GMap 0 order.K4 perm_r__u) ∷
      (event.VMap 0 order.G1 0 perm_rw_u) ∷
      (event.Access 0 kind.Store) ∷
      (event.Access 0 kind.Load) ∷
      (event.Access 0 kind.Fetch) ∷ [];
  outcomes =
      outcome.Done ∷
      outcome.Done ∷
      (outcome.Replied reply.GuestFault) ∷
      (outcome.Replied (reply.Frame 0)) ∷
      (outcome.Replied reply.PageFault) ∷ [];
  counts = record {
    accesses = 3;
    ok = 1;
    page_faults = 1;
    guest_faults = 1;
    accepted = 2;
    refused = 0 ∷ 0 ∷ 0 ∷ 0 ∷ 0 ∷ 0 ∷ [];
    reads = 18;
    hits = 0;
    pasum = 0;
  };
}

-- A node whose page the host doesn't let be loaded: a guest-page fault with the access's code.
abbrev pub node_not_loadable_row : NestRow
node_not_loadable_row = record {
  nest = record { base = 0; nodes = 4; frames = 8; g_nodes = 64; g_cache = 0 };
  events =
      (event.GMap 0 order.K4 perm___xu) ∷
      (event.VMap 0 order.G1 0 perm___xu) ∷
      (event.Access 0 kind.Fetch) ∷
      (event.Access 0 kind.Store) ∷ [];
  outcomes =
      outcome.Done ∷
      outcome.Done ∷
      (outcome.Replied reply.GuestFault) ∷
      (outcome.Replied reply.GuestFault) ∷ [];
  counts = record {
    accesses = 2;
    ok = 0;
    page_faults = 0;
    guest_faults = 2;
    accepted = 2;
    refused = 0 ∷ 0 ∷ 0 ∷ 0 ∷ 0 ∷ 0 ∷ [];
    reads = 6;
    hits = 0;
    pasum = 0;
  };
}

-- The host has no leaf for the guest's root: the walk ends there.
abbrev pub no_root_row : NestRow
no_root_row = record {
  nest = record { base = 536870911; nodes = 1; frames = 1; g_nodes = 4; g_cache = 0 };
  events =
      (event.Access 0 kind.Fetch) ∷
      (event.Access 0 kind.Store) ∷
      (event.Access 274877906944 kind.Load) ∷ [];
  outcomes =
      (outcome.Replied reply.GuestFault) ∷
      (outcome.Replied reply.GuestFault) ∷
      (outcome.Replied reply.PageFault) ∷ [];
  counts = record {
    accesses = 3;
    ok = 0;
    page_faults = 1;
    guest_faults = 2;
    accepted = 0;
    refused = 0 ∷ 0 ∷ 0 ∷ 0 ∷ 0 ∷ 0 ∷ [];
    reads = 2;
    hits = 0;
    pasum = 0;
  };
}

-- A node's number is taken again, and so its guest page.
abbrev pub a_node_number_again_row : NestRow
a_node_number_again_row = record {
  nest = record { base = 64; nodes = 5; frames = 64; g_nodes = 64; g_cache = 2 };
  events =
      (event.GMap 262144 order.K4 perm_rw_u) ∷
      (event.GMap 266240 order.K4 perm_rw_u) ∷
      (event.GMap 270336 order.K4 perm_rw_u) ∷
      (event.GMap 274432 order.K4 perm_rw_u) ∷
      (event.GMap 278528 order.K4 perm_rw_u) ∷
      (event.GMap 0 order.K4 perm_rwxu) ∷
      (event.GMap 4096 order.K4 perm_rwxu) ∷
      (event.GMap 8192 order.K4 perm_rwxu) ∷
      (event.GMap 12288 order.K4 perm_rwxu) ∷
      (event.VMap 0 order.K4 0 perm_rwxu) ∷
      (event.VMap 2097152 order.K4 4096 perm_rwxu) ∷
      (event.Access 0 kind.Load) ∷
      (event.Access 2097152 kind.Load) ∷
      (event.VUnmap 0 order.K4) ∷
      (event.VMap 1073741824 order.K4 8192 perm_rwxu) ∷
      (event.VMap 1075838976 order.K4 12288 perm_rwxu) ∷
      (event.Access 0 kind.Load) ∷
      (event.Access 2097152 kind.Load) ∷
      (event.Access 1073741828 kind.Store) ∷
      (event.Access 1075838976 kind.Fetch) ∷
      (event.GUnmap 266240 order.K4) ∷
      (event.Access 2097152 kind.Load) ∷
      (event.Access 1073741824 kind.Load) ∷
      (event.Access 1075838976 kind.Store) ∷ [];
  outcomes =
      outcome.Done ∷
      outcome.Done ∷
      outcome.Done ∷
      outcome.Done ∷
      outcome.Done ∷
      outcome.Done ∷
      outcome.Done ∷
      outcome.Done ∷
      outcome.Done ∷
      outcome.Done ∷
      outcome.Done ∷
      (outcome.Replied (reply.Frame 5)) ∷
      (outcome.Replied (reply.Frame 6)) ∷
      outcome.Done ∷
      outcome.Done ∷
      (outcome.Refused refused.NoTable) ∷
      (outcome.Replied reply.PageFault) ∷
      (outcome.Replied (reply.Frame 6)) ∷
      (outcome.Replied (reply.Frame 7)) ∷
      (outcome.Replied reply.PageFault) ∷
      outcome.Done ∷
      (outcome.Replied reply.GuestFault) ∷
      (outcome.Replied (reply.Frame 7)) ∷
      (outcome.Replied reply.PageFault) ∷ [];
  counts = record {
    accesses = 9;
    ok = 5;
    page_faults = 3;
    guest_faults = 1;
    accepted = 14;
    refused = 0 ∷ 0 ∷ 0 ∷ 0 ∷ 0 ∷ 1 ∷ [];
    reads = 91;
    hits = 5;
    pasum = 126980;
  };
}

-- The guest denies by its permission, and the host isn't asked for the page.
abbrev pub denied_by_the_guest_row : NestRow
denied_by_the_guest_row = record {
  nest = record { base = 64; nodes = 4; frames = 16; g_nodes = 64; g_cache = 4 };
  events =
      (event.GMap 262144 order.K4 perm_rw_u) ∷
      (event.GMap 266240 order.K4 perm_rw_u) ∷
      (event.GMap 270336 order.K4 perm_rw_u) ∷
      (event.GMap 0 order.K4 perm_rwxu) ∷
      (event.VMap 0 order.K4 0 perm_rwx_) ∷
      (event.VMap 4096 order.K4 0 perm___xu) ∷
      (event.Access 0 kind.Load) ∷
      (event.Access 4096 kind.Store) ∷
      (event.Access 4104 kind.Fetch) ∷
      (event.Access 4096 kind.Load) ∷ [];
  outcomes =
      outcome.Done ∷
      outcome.Done ∷
      outcome.Done ∷
      outcome.Done ∷
      outcome.Done ∷
      outcome.Done ∷
      (outcome.Replied reply.PageFault) ∷
      (outcome.Replied reply.PageFault) ∷
      (outcome.Replied (reply.Frame 3)) ∷
      (outcome.Replied reply.PageFault) ∷ [];
  counts = record {
    accesses = 4;
    ok = 1;
    page_faults = 3;
    guest_faults = 0;
    accepted = 6;
    refused = 0 ∷ 0 ∷ 0 ∷ 0 ∷ 0 ∷ 0 ∷ [];
    reads = 24;
    hits = 9;
    pasum = 12296;
  };
}

-- Guest pages on both sides of 2^27, which are pages of two of the host's roots.
abbrev pub across_two_spaces_row : NestRow
across_two_spaces_row = record {
  nest = record { base = 134217726; nodes = 4; frames = 16; g_nodes = 16; g_cache = 4 };
  events =
      (event.GMap 549755805696 order.K4 perm_rw_u) ∷
      (event.GMap 549755809792 order.K4 perm_rw_u) ∷
      (event.GMap 549755813888 order.K4 perm_rw_u) ∷
      (event.GMap 549755817984 order.K4 perm_rw_u) ∷
      (event.VMap 0 order.K4 549755805696 perm_r__u) ∷
      (event.VMap 1073741824 order.G1 7516192768 perm_r__u) ∷
      (event.Access 0 kind.Load) ∷
      (event.Access 1073741824 kind.Load) ∷
      (event.Access 2147483648 kind.Load) ∷ [];
  outcomes =
      outcome.Done ∷
      outcome.Done ∷
      outcome.Done ∷
      outcome.Done ∷
      outcome.Done ∷
      outcome.Done ∷
      (outcome.Replied (reply.Frame 0)) ∷
      (outcome.Replied reply.GuestFault) ∷
      (outcome.Replied reply.PageFault) ∷ [];
  counts = record {
    accesses = 3;
    ok = 1;
    page_faults = 1;
    guest_faults = 1;
    accepted = 6;
    refused = 0 ∷ 0 ∷ 0 ∷ 0 ∷ 0 ∷ 0 ∷ [];
    reads = 15;
    hits = 3;
    pasum = 0;
  };
}

-- The host unmaps the guest's root, the node of level 1, that of level 0, and the page itself: the
-- walk ends earlier each time, with the access's code.
abbrev pub a_fault_at_each_node_row : NestRow
a_fault_at_each_node_row = record {
  nest = record { base = 256; nodes = 8; frames = 16; g_nodes = 64; g_cache = 0 };
  events =
      (event.GMap 1048576 order.K4 perm_rw_u) ∷
      (event.GMap 1052672 order.K4 perm_rw_u) ∷
      (event.GMap 1056768 order.K4 perm_rw_u) ∷
      (event.GMap 0 order.K4 perm_rw_u) ∷
      (event.VMap 4096 order.K4 0 perm_rw_u) ∷
      (event.Access 4096 kind.Store) ∷
      (event.GUnmap 0 order.K4) ∷
      (event.Access 4096 kind.Store) ∷
      (event.GUnmap 1056768 order.K4) ∷
      (event.Access 4096 kind.Store) ∷
      (event.GUnmap 1052672 order.K4) ∷
      (event.Access 4096 kind.Fetch) ∷
      (event.GUnmap 1048576 order.K4) ∷
      (event.Access 4096 kind.Load) ∷ [];
  outcomes =
      outcome.Done ∷
      outcome.Done ∷
      outcome.Done ∷
      outcome.Done ∷
      outcome.Done ∷
      (outcome.Replied (reply.Frame 3)) ∷
      outcome.Done ∷
      (outcome.Replied reply.GuestFault) ∷
      outcome.Done ∷
      (outcome.Replied reply.GuestFault) ∷
      outcome.Done ∷
      (outcome.Replied reply.GuestFault) ∷
      outcome.Done ∷
      (outcome.Replied reply.GuestFault) ∷ [];
  counts = record {
    accesses = 5;
    ok = 1;
    page_faults = 0;
    guest_faults = 4;
    accepted = 9;
    refused = 0 ∷ 0 ∷ 0 ∷ 0 ∷ 0 ∷ 0 ∷ [];
    reads = 49;
    hits = 0;
    pasum = 12288;
  };
}

-- A node's page is unmapped and then mapped to another frame: the guest's words are as before.
abbrev pub a_nodes_page_at_another_frame_row : NestRow
a_nodes_page_at_another_frame_row = record {
  nest = record { base = 256; nodes = 8; frames = 16; g_nodes = 64; g_cache = 4 };
  events =
      (event.GMap 1048576 order.K4 perm_rw_u) ∷
      (event.GMap 1052672 order.K4 perm_rw_u) ∷
      (event.GMap 1056768 order.K4 perm_rw_u) ∷
      (event.GMap 36864 order.K4 perm_rwxu) ∷
      (event.VMap 20480 order.K4 36864 perm_rw_u) ∷
      (event.Access 20480 kind.Load) ∷
      (event.GUnmap 1052672 order.K4) ∷
      (event.Access 20480 kind.Load) ∷
      (event.GMap 12288 order.K4 perm_rw_u) ∷
      (event.GMap 1052672 order.K4 perm_rw_u) ∷
      (event.Access 20480 kind.Load) ∷
      (event.Access 20480 kind.Store) ∷ [];
  outcomes =
      outcome.Done ∷
      outcome.Done ∷
      outcome.Done ∷
      outcome.Done ∷
      outcome.Done ∷
      (outcome.Replied (reply.Frame 3)) ∷
      outcome.Done ∷
      (outcome.Replied reply.GuestFault) ∷
      outcome.Done ∷
      outcome.Done ∷
      (outcome.Replied (reply.Frame 3)) ∷
      (outcome.Replied (reply.Frame 3)) ∷ [];
  counts = record {
    accesses = 4;
    ok = 3;
    page_faults = 0;
    guest_faults = 1;
    accepted = 8;
    refused = 0 ∷ 0 ∷ 0 ∷ 0 ∷ 0 ∷ 0 ∷ [];
    reads = 28;
    hits = 8;
    pasum = 36864;
  };
}

-- Two pages of the guest are mapped to one guest page, with permissions of their own.
abbrev pub two_pages_at_one_guest_page_row : NestRow
two_pages_at_one_guest_page_row = record {
  nest = record { base = 256; nodes = 8; frames = 16; g_nodes = 64; g_cache = 4 };
  events =
      (event.GMap 1048576 order.K4 perm_rw_u) ∷
      (event.GMap 1052672 order.K4 perm_rw_u) ∷
      (event.GMap 1056768 order.K4 perm_rw_u) ∷
      (event.GMap 49152 order.K4 perm_rw_u) ∷
      (event.VMap 4096 order.K4 49152 perm_r__u) ∷
      (event.VMap 8192 order.K4 49152 perm_rw_u) ∷
      (event.Access 4097 kind.Load) ∷
      (event.Access 4097 kind.Store) ∷
      (event.Access 8194 kind.Store) ∷
      (event.GUnmap 49152 order.K4) ∷
      (event.Access 4096 kind.Load) ∷
      (event.Access 8192 kind.Load) ∷ [];
  outcomes =
      outcome.Done ∷
      outcome.Done ∷
      outcome.Done ∷
      outcome.Done ∷
      outcome.Done ∷
      outcome.Done ∷
      (outcome.Replied (reply.Frame 3)) ∷
      (outcome.Replied reply.PageFault) ∷
      (outcome.Replied (reply.Frame 3)) ∷
      outcome.Done ∷
      (outcome.Replied reply.GuestFault) ∷
      (outcome.Replied reply.GuestFault) ∷ [];
  counts = record {
    accesses = 5;
    ok = 2;
    page_faults = 1;
    guest_faults = 2;
    accepted = 7;
    refused = 0 ∷ 0 ∷ 0 ∷ 0 ∷ 0 ∷ 0 ∷ [];
    reads = 33;
    hits = 13;
    pasum = 24579;
  };
}

-- A guest page under each of the host's four roots; page 0 of each is another guest page.
abbrev pub all_four_roots_of_the_host_row : NestRow
all_four_roots_of_the_host_row = record {
  nest = record { base = 256; nodes = 8; frames = 16; g_nodes = 64; g_cache = 8 };
  events =
      (event.GMap 1048576 order.K4 perm_rw_u) ∷
      (event.GMap 1052672 order.K4 perm_rw_u) ∷
      (event.GMap 1056768 order.K4 perm_rw_u) ∷
      (event.GMap 0 order.K4 perm_rw_u) ∷
      (event.GMap 549755813888 order.K4 perm_rw_u) ∷
      (event.GMap 1099511627776 order.K4 perm_rw_u) ∷
      (event.GMap 1649267441664 order.K4 perm_rw_u) ∷
      (event.VMap 4096 order.K4 0 perm_rw_u) ∷
      (event.VMap 8192 order.K4 549755813888 perm_rw_u) ∷
      (event.VMap 12288 order.K4 1099511627776 perm_rw_u) ∷
      (event.VMap 16384 order.K4 1649267441664 perm_rw_u) ∷
      (event.Access 4096 kind.Load) ∷
      (event.Access 8193 kind.Load) ∷
      (event.Access 12290 kind.Load) ∷
      (event.Access 16387 kind.Load) ∷
      (event.GUnmap 1099511627776 order.K4) ∷
      (event.Access 4096 kind.Load) ∷
      (event.Access 8193 kind.Load) ∷
      (event.Access 12290 kind.Load) ∷
      (event.Access 16387 kind.Load) ∷ [];
  outcomes =
      outcome.Done ∷
      outcome.Done ∷
      outcome.Done ∷
      outcome.Done ∷
      outcome.Done ∷
      outcome.Done ∷
      outcome.Done ∷
      outcome.Done ∷
      outcome.Done ∷
      outcome.Done ∷
      outcome.Done ∷
      (outcome.Replied (reply.Frame 3)) ∷
      (outcome.Replied (reply.Frame 4)) ∷
      (outcome.Replied (reply.Frame 5)) ∷
      (outcome.Replied (reply.Frame 6)) ∷
      outcome.Done ∷
      (outcome.Replied (reply.Frame 3)) ∷
      (outcome.Replied (reply.Frame 4)) ∷
      (outcome.Replied reply.GuestFault) ∷
      (outcome.Replied (reply.Frame 6)) ∷ [];
  counts = record {
    accesses = 8;
    ok = 7;
    page_faults = 0;
    guest_faults = 1;
    accepted = 12;
    refused = 0 ∷ 0 ∷ 0 ∷ 0 ∷ 0 ∷ 0 ∷ [];
    reads = 46;
    hits = 24;
    pasum = 126986;
  };
}
