-- Commands, and their refusals in order.
use Rattle.std.specs.Prelude.{[], ◌∷◌}
use Rattle.xl_model.specs.declared.address.Kind.TheVariants as kind
use Rattle.xl_model.specs.declared.address.Order.TheVariants as order
use Rattle.xl_nested_model.specs.declared.nest.NestEvent.TheVariants as event
use Rattle.xl_nested_model.specs.declared.nest.NestOutcome.TheVariants as outcome
use Rattle.xl_nested_model.specs.declared.nest.NestRefusal.TheVariants as refused
use Rattle.xl_nested_model.specs.declared.nest.NestReply.TheVariants as reply
use Rattle.xl_nested_rows.specs.Row.{NestRow, perm_r__u, perm_rw_u}

-- Each of the six refusals, and the codes of faults.
abbrev pub six_refusals_row : NestRow
six_refusals_row = record {
  nest = record { base = 0; nodes = 1; frames = 2; g_nodes = 6; g_cache = 0 };
  events =
      (event.GMap 2199023255552 order.K4 perm_r__u) ∷
      (event.VMap 274877906944 order.K4 0 perm_r__u) ∷
      (event.VMap 0 order.K4 2199023255552 perm_r__u) ∷
      (event.GMap 2048 order.K4 perm_r__u) ∷
      (event.VMap 0 order.K4 2048 perm_r__u) ∷
      (event.VMap 2048 order.K4 0 perm_r__u) ∷
      (event.GUnmap 0 order.K4) ∷
      (event.VUnmap 0 order.K4) ∷
      (event.GMap 0 order.K4 perm_r__u) ∷
      (event.GMap 0 order.K4 perm_r__u) ∷
      (event.GUnmap 0 order.M2) ∷
      (event.GMap 4096 order.K4 perm_r__u) ∷
      (event.GMap 8192 order.K4 perm_r__u) ∷
      (event.GUnmap 4096 order.K4) ∷
      (event.GMap 549755813888 order.K4 perm_r__u) ∷
      (event.VMap 0 order.K4 0 perm_r__u) ∷
      (event.VMap 0 order.G1 0 perm_r__u) ∷
      (event.VMap 0 order.G1 0 perm_r__u) ∷
      (event.VUnmap 0 order.K4) ∷
      (event.Access 0 kind.Fetch) ∷
      (event.Access 8 kind.Load) ∷
      (event.Access 0 kind.Store) ∷
      (event.Access 274877906944 kind.Load) ∷
      (event.Access 1073741824 kind.Load) ∷
      (event.Access 4104 kind.Load) ∷ [];
  outcomes =
      (outcome.Refused refused.BadAddress) ∷
      (outcome.Refused refused.BadAddress) ∷
      (outcome.Refused refused.BadAddress) ∷
      (outcome.Refused refused.Misaligned) ∷
      (outcome.Refused refused.Misaligned) ∷
      (outcome.Refused refused.Misaligned) ∷
      (outcome.Refused refused.Absent) ∷
      (outcome.Refused refused.Absent) ∷
      outcome.Done ∷
      (outcome.Refused refused.Overlap) ∷
      (outcome.Refused refused.Absent) ∷
      outcome.Done ∷
      (outcome.Refused refused.NoFrames) ∷
      outcome.Done ∷
      (outcome.Refused refused.NoTable) ∷
      (outcome.Refused refused.NoTable) ∷
      outcome.Done ∷
      (outcome.Refused refused.Overlap) ∷
      (outcome.Refused refused.Absent) ∷
      (outcome.Replied reply.PageFault) ∷
      (outcome.Replied (reply.Frame 0)) ∷
      (outcome.Replied reply.PageFault) ∷
      (outcome.Replied reply.PageFault) ∷
      (outcome.Replied reply.PageFault) ∷
      (outcome.Replied reply.GuestFault) ∷ [];
  counts = record {
    accesses = 6;
    ok = 1;
    page_faults = 4;
    guest_faults = 1;
    accepted = 4;
    refused = 3 ∷ 3 ∷ 4 ∷ 2 ∷ 1 ∷ 2 ∷ [];
    reads = 26;
    hits = 0;
    pasum = 8;
  };
}

-- GMAP: each refusal is given where those after it hold too.
abbrev pub the_first_refusal_of_a_gmap_row : NestRow
the_first_refusal_of_a_gmap_row = record {
  nest = record { base = 0; nodes = 2; frames = 3; g_nodes = 8; g_cache = 0 };
  events =
      (event.GMap 2199023255553 order.K4 perm_rw_u) ∷
      (event.GMap 2199023255552 order.K4 perm_rw_u) ∷
      (event.GMap 0 order.K4 perm_rw_u) ∷
      (event.GMap 1 order.M2 perm_rw_u) ∷
      (event.GMap 0 order.K4 perm_rw_u) ∷
      (event.GMap 0 order.M2 perm_rw_u) ∷
      (event.GMap 2097152 order.M2 perm_rw_u) ∷
      (event.GMap 4096 order.K4 perm_rw_u) ∷
      (event.GMap 549755813888 order.K4 perm_rw_u) ∷
      (event.GMap 8192 order.K4 perm_rw_u) ∷
      (event.GMap 1099511627776 order.K4 perm_rw_u) ∷
      (event.GUnmap 0 order.K4) ∷
      (event.GMap 1099511627776 order.K4 perm_rw_u) ∷
      (event.GMap 20480 order.K4 perm_rw_u) ∷ [];
  outcomes =
      (outcome.Refused refused.BadAddress) ∷
      (outcome.Refused refused.BadAddress) ∷
      outcome.Done ∷
      (outcome.Refused refused.Misaligned) ∷
      (outcome.Refused refused.Overlap) ∷
      (outcome.Refused refused.Overlap) ∷
      (outcome.Refused refused.NoFrames) ∷
      outcome.Done ∷
      outcome.Done ∷
      (outcome.Refused refused.NoFrames) ∷
      (outcome.Refused refused.NoFrames) ∷
      outcome.Done ∷
      (outcome.Refused refused.NoTable) ∷
      outcome.Done ∷ [];
  counts = record {
    accesses = 0;
    ok = 0;
    page_faults = 0;
    guest_faults = 0;
    accepted = 5;
    refused = 2 ∷ 1 ∷ 0 ∷ 2 ∷ 3 ∷ 1 ∷ [];
    reads = 0;
    hits = 0;
    pasum = 0;
  };
}

-- VMAP: either address is tested, 1 of both before 2 of both, then the leaves, then the nodes.
abbrev pub the_first_refusal_of_a_vmap_row : NestRow
the_first_refusal_of_a_vmap_row = record {
  nest = record { base = 0; nodes = 3; frames = 2; g_nodes = 8; g_cache = 0 };
  events =
      (event.VMap 274877906944 order.K4 1 perm_rw_u) ∷
      (event.VMap 1 order.K4 2199023255552 perm_rw_u) ∷
      (event.VMap 1 order.K4 0 perm_rw_u) ∷
      (event.VMap 0 order.K4 1 perm_rw_u) ∷
      (event.VMap 0 order.K4 0 perm_rw_u) ∷
      (event.VMap 0 order.M2 0 perm_rw_u) ∷
      (event.VMap 0 order.K4 4096 perm_rw_u) ∷
      (event.VMap 2097152 order.K4 0 perm_rw_u) ∷
      (event.VMap 1073741824 order.G1 0 perm_rw_u) ∷
      (event.VMap 18446744073709547520 order.K4 0 perm_rw_u) ∷
      (event.VMap 4096 order.K4 0 perm_rw_u) ∷ [];
  outcomes =
      (outcome.Refused refused.BadAddress) ∷
      (outcome.Refused refused.BadAddress) ∷
      (outcome.Refused refused.Misaligned) ∷
      (outcome.Refused refused.Misaligned) ∷
      outcome.Done ∷
      (outcome.Refused refused.Overlap) ∷
      (outcome.Refused refused.Overlap) ∷
      (outcome.Refused refused.NoTable) ∷
      outcome.Done ∷
      (outcome.Refused refused.NoTable) ∷
      outcome.Done ∷ [];
  counts = record {
    accesses = 0;
    ok = 0;
    page_faults = 0;
    guest_faults = 0;
    accepted = 3;
    refused = 2 ∷ 2 ∷ 0 ∷ 2 ∷ 0 ∷ 2 ∷ [];
    reads = 0;
    hits = 0;
    pasum = 0;
  };
}

-- Both unmaps: an address out of range, one not aligned, then no such leaf; a leaf of another size
-- isn't the one named.
abbrev pub the_first_refusal_of_an_unmap_row : NestRow
the_first_refusal_of_an_unmap_row = record {
  nest = record { base = 0; nodes = 3; frames = 1024; g_nodes = 8; g_cache = 0 };
  events =
      (event.GUnmap 2199023255553 order.K4) ∷
      (event.GUnmap 1 order.K4) ∷
      (event.GUnmap 0 order.K4) ∷
      (event.GMap 0 order.M2 perm_rw_u) ∷
      (event.GUnmap 0 order.K4) ∷
      (event.GUnmap 4096 order.K4) ∷
      (event.GUnmap 0 order.G1) ∷
      (event.GUnmap 0 order.M2) ∷
      (event.VUnmap 274877906945 order.K4) ∷
      (event.VUnmap 1 order.K4) ∷
      (event.VUnmap 0 order.K4) ∷
      (event.VMap 0 order.M2 0 perm_rw_u) ∷
      (event.VUnmap 0 order.K4) ∷
      (event.VUnmap 0 order.M2) ∷
      (event.VUnmap 0 order.M2) ∷ [];
  outcomes =
      (outcome.Refused refused.BadAddress) ∷
      (outcome.Refused refused.Misaligned) ∷
      (outcome.Refused refused.Absent) ∷
      outcome.Done ∷
      (outcome.Refused refused.Absent) ∷
      (outcome.Refused refused.Absent) ∷
      (outcome.Refused refused.Absent) ∷
      outcome.Done ∷
      (outcome.Refused refused.BadAddress) ∷
      (outcome.Refused refused.Misaligned) ∷
      (outcome.Refused refused.Absent) ∷
      outcome.Done ∷
      (outcome.Refused refused.Absent) ∷
      outcome.Done ∷
      (outcome.Refused refused.Absent) ∷ [];
  counts = record {
    accesses = 0;
    ok = 0;
    page_faults = 0;
    guest_faults = 0;
    accepted = 4;
    refused = 2 ∷ 2 ∷ 7 ∷ 0 ∷ 0 ∷ 0 ∷ [];
    reads = 0;
    hits = 0;
    pasum = 0;
  };
}

-- The four roots count among the host's nodes: with four of them only leaves of 1 GiB have room.
abbrev pub four_host_nodes_take_1g_alone_row : NestRow
four_host_nodes_take_1g_alone_row = record {
  nest = record { base = 0; nodes = 1; frames = 1048576; g_nodes = 4; g_cache = 0 };
  events =
      (event.GMap 0 order.K4 perm_rw_u) ∷
      (event.GMap 0 order.M2 perm_rw_u) ∷
      (event.GMap 0 order.G1 perm_rw_u) ∷
      (event.GMap 549755813888 order.G1 perm_rw_u) ∷
      (event.GMap 1099511627776 order.K4 perm_rw_u) ∷
      (event.GMap 1649267441664 order.G1 perm_rw_u) ∷
      (event.VMap 0 order.M2 0 perm_rw_u) ∷
      (event.VMap 0 order.G1 0 perm_rw_u) ∷
      (event.Access 8 kind.Load) ∷ [];
  outcomes =
      (outcome.Refused refused.NoTable) ∷
      (outcome.Refused refused.NoTable) ∷
      outcome.Done ∷
      outcome.Done ∷
      (outcome.Refused refused.NoTable) ∷
      outcome.Done ∷
      (outcome.Refused refused.NoTable) ∷
      outcome.Done ∷
      (outcome.Replied (reply.Frame 0)) ∷ [];
  counts = record {
    accesses = 1;
    ok = 1;
    page_faults = 0;
    guest_faults = 0;
    accepted = 4;
    refused = 0 ∷ 0 ∷ 0 ∷ 0 ∷ 0 ∷ 4 ∷ [];
    reads = 3;
    hits = 0;
    pasum = 8;
  };
}

-- An unmap gives the stage's nodes back, at either stage.
abbrev pub nodes_are_given_back_row : NestRow
nodes_are_given_back_row = record {
  nest = record { base = 0; nodes = 3; frames = 8; g_nodes = 6; g_cache = 0 };
  events =
      (event.GMap 0 order.K4 perm_rw_u) ∷
      (event.GMap 1073741824 order.K4 perm_rw_u) ∷
      (event.GUnmap 0 order.K4) ∷
      (event.GMap 1073741824 order.K4 perm_rw_u) ∷
      (event.VMap 0 order.K4 0 perm_rw_u) ∷
      (event.VMap 1073741824 order.K4 0 perm_rw_u) ∷
      (event.VUnmap 0 order.K4) ∷
      (event.VMap 1073741824 order.K4 0 perm_rw_u) ∷
      (event.VUnmap 1073741824 order.K4) ∷
      (event.GUnmap 1073741824 order.K4) ∷
      (event.GMap 549755813888 order.K4 perm_rw_u) ∷ [];
  outcomes =
      outcome.Done ∷
      (outcome.Refused refused.NoTable) ∷
      outcome.Done ∷
      outcome.Done ∷
      outcome.Done ∷
      (outcome.Refused refused.NoTable) ∷
      outcome.Done ∷
      outcome.Done ∷
      outcome.Done ∷
      outcome.Done ∷
      outcome.Done ∷ [];
  counts = record {
    accesses = 0;
    ok = 0;
    page_faults = 0;
    guest_faults = 0;
    accepted = 9;
    refused = 0 ∷ 0 ∷ 0 ∷ 0 ∷ 0 ∷ 2 ∷ [];
    reads = 0;
    hits = 0;
    pasum = 0;
  };
}

-- Guest page 1 has the address 4096. The second address is 2^38 above it, in the same root of the
-- host; the third has guest page 2^18 + 1 of the last root, 3 * 2^39 + 2^30 + 4096. The third is
-- mapped once, no page after it is, and it is unmapped once. Each leaf needs two nodes of its own
-- below the four roots.
abbrev pub high_guest_addresses_row : NestRow
high_guest_addresses_row = record {
  nest = record { base = 0; nodes = 1; frames = 4; g_nodes = 16; g_cache = 0 };
  events =
      (event.GMap 4096 order.K4 perm_r__u) ∷
      (event.GMap 274877911040 order.K4 perm_r__u) ∷
      (event.GMap 1650341187584 order.K4 perm_r__u) ∷
      (event.GMap 1650341187584 order.K4 perm_r__u) ∷
      (event.GUnmap 1650341191680 order.K4) ∷
      (event.GUnmap 1650341187584 order.K4) ∷
      (event.GUnmap 1650341187584 order.K4) ∷ [];
  outcomes =
      outcome.Done ∷
      outcome.Done ∷
      outcome.Done ∷
      (outcome.Refused refused.Overlap) ∷
      (outcome.Refused refused.Absent) ∷
      outcome.Done ∷
      (outcome.Refused refused.Absent) ∷ [];
  counts = record {
    accesses = 0;
    ok = 0;
    page_faults = 0;
    guest_faults = 0;
    accepted = 4;
    refused = 0 ∷ 0 ∷ 2 ∷ 1 ∷ 0 ∷ 0 ∷ [];
    reads = 0;
    hits = 0;
    pasum = 0;
  };
}
