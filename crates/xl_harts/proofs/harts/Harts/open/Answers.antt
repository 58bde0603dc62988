use Rattle.xl_harts.proofs.Common.{◌∷◌, ◌≡◌, [], ap, Bool, Buffer, false, Hart, HartSpec, HartsState, IsHarts, IsHartSpec, IsPoolOf, kept_leaves, List, no_refusals, opening-kept, opening_hart, opening_harts, opening_table, refl, replicate, Request, row_table, state_of, subst, sym, TableState, true, ℕ}
use Rattle.std.proofs.Math.ListN.{get_or-replicate, length-replicate}
use Rattle.xl_model.specs.RowRun.{opening}
use Rattle.xl_harts.proofs.harts.Harts.open.Goals as goal

-- Harts that are opened.
opening-is : (spec : HartSpec) (table : TableState) (requests : List Request) (harts : List Hart) → table ≡ opening_table 3 spec.nodes spec.spaces (0 ∷ 0 ∷ 0 ∷ 0 ∷ []) → requests ≡ [] → harts ≡ replicate spec.harts (opening_hart spec)
    → state_of spec table requests harts 0 0 no_refusals ≡ opening_harts spec
unfolding opening_harts opening
opening-is spec table requests harts a b c = rw (a, b, c) refl

all-free : (spec : HartSpec) (pool : List Bool) → pool ≡ replicate spec.frames true → IsPoolOf (opening_harts spec).spec.frames (kept_leaves (opening_harts spec)) pool
unfolding opening_harts opening
all-free spec pool p = rw p (record { size = length-replicate spec.frames true; each = λ f below. get_or-replicate spec.frames f true false below })

full : (spec : HartSpec) (n : ℕ) → n ≡ spec.queue → n ≡ (opening_harts spec).spec.queue
unfolding opening_harts
full spec n e = e

opening-harts : (spec : HartSpec) (table : TableState) (requests : List Request) (harts : List Hart) (capacity : ℕ) (pool : List Bool) → IsHartSpec spec
    → table ≡ opening_table 3 spec.nodes spec.spaces (0 ∷ 0 ∷ 0 ∷ 0 ∷ []) → requests ≡ [] → harts ≡ replicate spec.harts (opening_hart spec) → capacity ≡ spec.queue → pool ≡ replicate spec.frames true
    → IsHarts (state_of spec table requests harts 0 0 no_refusals) capacity pool
opening-harts spec table requests harts capacity pool is a b c room p =
    subst (λ (v : HartsState). IsHarts v capacity pool) (sym (opening-is spec table requests harts a b c)) (opened capacity room p)
  where
    opened : (n : ℕ) → n ≡ spec.queue → pool ≡ replicate spec.frames true → IsHarts (opening_harts spec) n pool
    opened n room q = record { kept = opening-kept spec is; pool_is = all-free spec pool q; room = full spec n room }

pub invariant_of-result : goal.invariant_of-result
invariant_of-result c =
    opening-harts c.args.spec (row_table 3 c.in_ok-table.table) c.in_ok-requests.requests.items c.in_ok-harts.harts.items c.in_ok-requests.requests.capacity c.in_ok-frames.frames c.requires
    c.in_ok-table.ensures (ap (λ (b : Buffer Request). b.items) c.in_ok-requests.ensures) c.in_ok-harts.ensures (ap (λ (b : Buffer Request). b.capacity) c.in_ok-requests.ensures) c.in_ok-frames.ensures

pub returns : goal.returns
returns c =
    opening-is c.args.spec (row_table 3 c.in_ok-table.table) c.in_ok-requests.requests.items c.in_ok-harts.harts.items c.in_ok-table.ensures (ap (λ (b : Buffer Request). b.items) c.in_ok-requests.ensures) c.in_ok-harts.ensures
