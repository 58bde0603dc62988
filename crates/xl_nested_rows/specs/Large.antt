-- Leaves of 2 MiB and of 1 GiB.
use Rattle.std.specs.Prelude.{[], ◌∷◌}
use Rattle.xl_model.specs.declared.address.Kind.TheVariants as kind
use Rattle.xl_model.specs.declared.address.Order.TheVariants as order
use Rattle.xl_nested_model.specs.declared.nest.NestEvent.TheVariants as event
use Rattle.xl_nested_model.specs.declared.nest.NestOutcome.TheVariants as outcome
use Rattle.xl_nested_model.specs.declared.nest.NestRefusal.TheVariants as refused
use Rattle.xl_nested_model.specs.declared.nest.NestReply.TheVariants as reply
use Rattle.xl_nested_rows.specs.Row.{NestRow, perm_r__u, perm_r_xu, perm_rw_u, perm_rwxu}

-- One host leaf of 2 MiB has nodes and data: all but the first translation are hits.
abbrev pub one_2m_leaf_of_the_host_row : NestRow
one_2m_leaf_of_the_host_row = record {
  nest = record { base = 256; nodes = 8; frames = 1024; g_nodes = 64; g_cache = 4 };
  events =
      (event.GMap 0 order.M2 perm_rwxu) ∷
      (event.VMap 4096 order.K4 20480 perm_rw_u) ∷
      (event.VMap 8192 order.K4 24576 perm_rw_u) ∷
      (event.Access 4104 kind.Load) ∷
      (event.Access 8208 kind.Store) ∷
      (event.Access 4104 kind.Load) ∷
      (event.Access 12288 kind.Load) ∷ [];
  outcomes =
      outcome.Done ∷
      outcome.Done ∷
      outcome.Done ∷
      (outcome.Replied (reply.Frame 5)) ∷
      (outcome.Replied (reply.Frame 6)) ∷
      (outcome.Replied (reply.Frame 5)) ∷
      (outcome.Replied reply.PageFault) ∷ [];
  counts = record {
    accesses = 4;
    ok = 3;
    page_faults = 1;
    guest_faults = 0;
    accepted = 3;
    refused = 0 ∷ 0 ∷ 0 ∷ 0 ∷ 0 ∷ 0 ∷ [];
    reads = 14;
    hits = 14;
    pasum = 65568;
  };
}

-- A guest leaf of 2 MiB over host leaves of 4 KiB.
abbrev pub a_2m_leaf_of_the_guest_row : NestRow
a_2m_leaf_of_the_guest_row = record {
  nest = record { base = 16; nodes = 4; frames = 16; g_nodes = 64; g_cache = 1 };
  events =
      (event.GMap 65536 order.K4 perm_rw_u) ∷
      (event.GMap 69632 order.K4 perm_rw_u) ∷
      (event.GMap 2109440 order.K4 perm_rw_u) ∷
      (event.GMap 2117632 order.K4 perm_r__u) ∷
      (event.VMap 4194304 order.M2 2097152 perm_rw_u) ∷
      (event.Access 4206883 kind.Load) ∷
      (event.Access 4214784 kind.Store) ∷
      (event.Access 4218879 kind.Load) ∷
      (event.Access 4210688 kind.Load) ∷
      (event.Access 4206592 kind.Load) ∷ [];
  outcomes =
      outcome.Done ∷
      outcome.Done ∷
      outcome.Done ∷
      outcome.Done ∷
      outcome.Done ∷
      (outcome.Replied (reply.Frame 2)) ∷
      (outcome.Replied reply.GuestFault) ∷
      (outcome.Replied (reply.Frame 3)) ∷
      (outcome.Replied reply.GuestFault) ∷
      (outcome.Replied (reply.Frame 2)) ∷ [];
  counts = record {
    accesses = 5;
    ok = 3;
    page_faults = 0;
    guest_faults = 2;
    accepted = 5;
    refused = 0 ∷ 0 ∷ 0 ∷ 0 ∷ 0 ∷ 0 ∷ [];
    reads = 55;
    hits = 0;
    pasum = 33058;
  };
}

-- Leaves of 1 GiB at both stages.
abbrev pub leaves_of_1g_at_both_row : NestRow
leaves_of_1g_at_both_row = record {
  nest = record { base = 134217984; nodes = 4; frames = 600000; g_nodes = 64; g_cache = 2 };
  events =
      (event.GMap 549756862464 order.K4 perm_rw_u) ∷
      (event.GMap 1073741824 order.G1 perm_rwxu) ∷
      (event.VMap 2147483648 order.G1 1073741824 perm_rwxu) ∷
      (event.VMap 18446744072635809792 order.G1 1073741824 perm_r_xu) ∷
      (event.Access 3221225471 kind.Load) ∷
      (event.Access 2147488308 kind.Fetch) ∷
      (event.Access 18446744072635809808 kind.Store) ∷
      (event.Access 18446744073709551615 kind.Load) ∷
      (event.Access 2147483647 kind.Load) ∷ [];
  outcomes =
      outcome.Done ∷
      outcome.Done ∷
      outcome.Done ∷
      outcome.Done ∷
      (outcome.Replied (reply.Frame 524287)) ∷
      (outcome.Replied (reply.Frame 262145)) ∷
      (outcome.Replied reply.PageFault) ∷
      (outcome.Replied (reply.Frame 524287)) ∷
      (outcome.Replied reply.PageFault) ∷ [];
  counts = record {
    accesses = 5;
    ok = 3;
    page_faults = 2;
    guest_faults = 0;
    accepted = 4;
    refused = 0 ∷ 0 ∷ 0 ∷ 0 ∷ 0 ∷ 0 ∷ [];
    reads = 9;
    hits = 6;
    pasum = 5368713778;
  };
}

-- A guest leaf of 1 GiB over host leaves of 4 KiB, of 2 MiB, and over pages that the host has no
-- leaf for.
abbrev pub a_1g_leaf_of_the_guest_over_many_row : NestRow
a_1g_leaf_of_the_guest_over_many_row = record {
  nest = record { base = 256; nodes = 4; frames = 2048; g_nodes = 64; g_cache = 4 };
  events =
      (event.GMap 1048576 order.K4 perm_rw_u) ∷
      (event.VMap 1073741824 order.G1 2147483648 perm_rw_u) ∷
      (event.GMap 2147487744 order.K4 perm_r__u) ∷
      (event.GMap 2149580800 order.M2 perm_rwxu) ∷
      (event.GMap 2147504128 order.K4 perm_rw_u) ∷
      (event.Access 1073745928 kind.Load) ∷
      (event.Access 1073745920 kind.Store) ∷
      (event.Access 1075851280 kind.Store) ∷
      (event.Access 1077932032 kind.Fetch) ∷
      (event.Access 1073762304 kind.Load) ∷
      (event.Access 1073741824 kind.Load) ∷
      (event.Access 1075838976 kind.Load) ∷ [];
  outcomes =
      outcome.Done ∷
      outcome.Done ∷
      outcome.Done ∷
      outcome.Done ∷
      outcome.Done ∷
      (outcome.Replied (reply.Frame 1)) ∷
      (outcome.Replied reply.GuestFault) ∷
      (outcome.Replied (reply.Frame 515)) ∷
      (outcome.Replied reply.PageFault) ∷
      (outcome.Replied (reply.Frame 2)) ∷
      (outcome.Replied reply.GuestFault) ∷
      (outcome.Replied (reply.Frame 512)) ∷ [];
  counts = record {
    accesses = 7;
    ok = 4;
    page_faults = 1;
    guest_faults = 2;
    accepted = 5;
    refused = 0 ∷ 0 ∷ 0 ∷ 0 ∷ 0 ∷ 0 ∷ [];
    reads = 21;
    hits = 8;
    pasum = 4218904;
  };
}

-- A host leaf of 1 GiB has the guest's nodes and its pages: a translation takes one load, and later
-- a hit.
abbrev pub a_1g_leaf_of_the_host_row : NestRow
a_1g_leaf_of_the_host_row = record {
  nest = record { base = 16; nodes = 16; frames = 524288; g_nodes = 4; g_cache = 2 };
  events =
      (event.GMap 0 order.K4 perm_rw_u) ∷
      (event.GMap 0 order.G1 perm_rwxu) ∷
      (event.VMap 12288 order.K4 28672 perm_rw_u) ∷
      (event.VMap 2097152 order.M2 2097152 perm_r_xu) ∷
      (event.Access 12289 kind.Load) ∷
      (event.Access 2134016 kind.Fetch) ∷
      (event.Access 2097152 kind.Store) ∷
      (event.Access 12288 kind.Store) ∷ [];
  outcomes =
      (outcome.Refused refused.NoTable) ∷
      outcome.Done ∷
      outcome.Done ∷
      outcome.Done ∷
      (outcome.Replied (reply.Frame 7)) ∷
      (outcome.Replied (reply.Frame 521)) ∷
      (outcome.Replied reply.PageFault) ∷
      (outcome.Replied (reply.Frame 7)) ∷ [];
  counts = record {
    accesses = 4;
    ok = 3;
    page_faults = 1;
    guest_faults = 0;
    accepted = 3;
    refused = 0 ∷ 0 ∷ 0 ∷ 0 ∷ 0 ∷ 1 ∷ [];
    reads = 11;
    hits = 12;
    pasum = 2191361;
  };
}

-- A guest leaf of 2 MiB at a host leaf of 2 MiB: two nodes, then one leaf of each stage.
abbrev pub a_2m_leaf_of_the_guest_under_a_2m_leaf_of_the_host_row : NestRow
a_2m_leaf_of_the_guest_under_a_2m_leaf_of_the_host_row = record {
  nest = record { base = 256; nodes = 8; frames = 1536; g_nodes = 64; g_cache = 0 };
  events =
      (event.GMap 1048576 order.K4 perm_rw_u) ∷
      (event.GMap 1052672 order.K4 perm_rw_u) ∷
      (event.GMap 4194304 order.M2 perm_rw_u) ∷
      (event.GMap 6291456 order.M2 perm_rw_u) ∷
      (event.GMap 8388608 order.M2 perm_rw_u) ∷
      (event.VMap 8388608 order.M2 4194304 perm_rw_u) ∷
      (event.VMap 10485760 order.M2 6291456 perm_rw_u) ∷
      (event.Access 8388608 kind.Load) ∷
      (event.Access 10485759 kind.Store) ∷
      (event.Access 10489856 kind.Load) ∷ [];
  outcomes =
      outcome.Done ∷
      outcome.Done ∷
      outcome.Done ∷
      outcome.Done ∷
      (outcome.Refused refused.NoFrames) ∷
      outcome.Done ∷
      outcome.Done ∷
      (outcome.Replied (reply.Frame 512)) ∷
      (outcome.Replied (reply.Frame 1023)) ∷
      (outcome.Replied (reply.Frame 1025)) ∷ [];
  counts = record {
    accesses = 3;
    ok = 3;
    page_faults = 0;
    guest_faults = 0;
    accepted = 6;
    refused = 0 ∷ 0 ∷ 0 ∷ 0 ∷ 1 ∷ 0 ∷ [];
    reads = 30;
    hits = 0;
    pasum = 10489855;
  };
}
