-- The host after a look into its G cache.
use Rattle.xl_nested.proofs.Common.{if◌then◌else◌, ◌+◌, ◌-◌, ◌/◌, ◌∙◌, ◌≡◌, allows, ap, arith, Bool, Cached, covers_guest, end_level, false, find, frame_if, frame_of, frame_said, host_leaf, host_of, host_page, host_space, IsFound, IsPageWord, Kind, Leaf, leaf_at_page, List, None, Option, Perm, purged, refl, reply_by, small_leaf, Some, Stage, stage2, subst, touched, touched-none, translated, translated_by, true, with_found, with_loads, with_newest, with_touch, without_items, ℕ}
use Rattle.xl_model.specs.Base.{plus}
use Rattle.xl_model.specs.declared.leaf.Reply.TheVariants as reply

abbrev of_width : ℕ → List Leaf → Cached Leaf
of_width width items = record { width = width; items = items }

cached-as : (new cache : Cached Leaf) (items : List Leaf) → new.width ≡ cache.width → new.items ≡ items → new ≡ of_width cache.width items
cached-as new cache items a b = ap (λ (w : ℕ). of_width w new.items) a ∙ ap (λ (xs : List Leaf). of_width cache.width xs) b

pub filled-as : (new cache : Cached Leaf) (leaf : Leaf) → new.width ≡ cache.width → new.items ≡ with_newest cache.width leaf cache.items → new ≡ with_found (Some leaf) cache
filled-as new cache leaf a b = cached-as new cache (with_newest cache.width leaf cache.items) a b

pub untouched-as : (p : Leaf → Bool) (new cache : Cached Leaf) → new.width ≡ cache.width → new.items ≡ touched p cache.items → find p cache.items ≡ None → new ≡ cache
untouched-as p new cache a b none = cached-as new cache cache.items a (b ∙ touched-none p cache.items none)

pub purged-as : (new cache : Cached Leaf) (p : Leaf → Bool) → new.width ≡ cache.width → new.items ≡ purged p cache.items → new ≡ without_items p cache
purged-as new cache p a b = cached-as new cache (purged p cache.items) a b

-- the leaf that covers a guest page, by its place in the host's table
pub leaf-by : (g space page : ℕ) (leaves : List Leaf) (o : Option Leaf) → space ≡ host_space g → page ≡ host_page g → o ≡ leaf_at_page space page leaves → o ≡ host_leaf g leaves
unfolding host_leaf
leaf-by g space page leaves o s p is = rw (← s, ← p) is

-- what was found
pub found-none : (page : ℕ) (o : Option Leaf) → IsFound page None o → o ≡ None
found-none page None found = refl
found-none page (Some x) found = absurd found

pub nothing-found : (page : ℕ) (o : Option Leaf) → None ≡ o → IsFound page None o
nothing-found page o e = subst (λ (x : Option Leaf). IsFound page None x) e tt

pub leaf-found : (page word : ℕ) (x : Leaf) (o : Option Leaf) → Some x ≡ o → IsPageWord page word x → IsFound page (Some word) o
leaf-found page word x o e says = subst (λ (y : Option Leaf). IsFound page (Some word) y) e says

-- a hit
hit-by : (g word n hits : ℕ) (stage : Stage) (pool : List Bool) (new cache : Cached Leaf) (o : Option Leaf) → IsFound (host_page g) (Some word) o → new ≡ with_touch (covers_guest g) cache → n ≡ plus hits 1
    → host_of stage pool new n ≡ translated_by o g (host_of stage pool cache hits)
hit-by g word n hits stage pool new cache None found e count = absurd found
hit-by g word n hits stage pool new cache (Some x) found e count = rw (e, count) refl

pub hit-after : (g word n hits : ℕ) (stage : Stage) (pool : List Bool) (new cache : Cached Leaf) → IsFound (host_page g) (Some word) (find (covers_guest g) cache.items) → new.width ≡ cache.width
    → new.items ≡ touched (covers_guest g) cache.items → n ≡ plus hits 1 → host_of stage pool new n ≡ translated g (host_of stage pool cache hits)
unfolding translated
hit-after g word n hits stage pool new cache found a b count =
    hit-by g word n hits stage pool new cache (find (covers_guest g) cache.items) found (cached-as new cache (touched (covers_guest g) cache.items) a b) count

-- a miss, and the walk
pub miss-after : (g space page hits : ℕ) (stage new : Stage) (pool : List Bool) (after cache : Cached Leaf) (o : Option Leaf) → space ≡ host_space g → page ≡ host_page g
    → find (covers_guest g) cache.items ≡ None → o ≡ leaf_at_page space page stage.leaves → new ≡ with_loads (3 - end_level 2 0 space page stage.leaves) stage → after ≡ with_found o cache
    → host_of new pool after hits ≡ translated g (host_of stage pool cache hits)
unfolding translated host_leaf
miss-after g space page hits stage new pool after cache o s p missed is loads filled = rw (loads, filled, is, s, p, missed) refl

-- the frame, by the word
frame-nothing : (page : ℕ) (kind : Kind) (o : Option Leaf) → IsFound page None o → None ≡ frame_of (reply_by o page kind)
frame-nothing page kind None found = refl
frame-nothing page kind (Some x) found = absurd found

pub frame-none : (g : ℕ) (leaves : List Leaf) (kind : Kind) → IsFound (host_page g) None (host_leaf g leaves) → None ≡ stage2 leaves g kind
unfolding stage2
frame-none g leaves kind found = frame-nothing (host_page g) kind (host_leaf g leaves) found

frame-where : (b : Bool) (frame : ℕ) → frame_if b frame ≡ frame_of (if b then reply.Frame frame else reply.Denied)
frame-where true frame = refl
frame-where false frame = refl

frame-found : (page word : ℕ) (kind : Kind) (o : Option Leaf) → IsFound page (Some word) o → frame_said kind word ≡ frame_of (reply_by o page kind)
frame-found page word kind None found = absurd found
frame-found page word kind (Some x) found =
    ap (λ (p : Perm). frame_if (allows p kind) (word / 16)) found.perm
    ∙ ap (λ (n : ℕ). frame_if (allows x.perm kind) n) found.frame
    ∙ frame-where (allows x.perm kind) (x.frame + (page - x.first))

pub frame-some : (g word : ℕ) (leaves : List Leaf) (kind : Kind) → IsFound (host_page g) (Some word) (host_leaf g leaves) → frame_said kind word ≡ stage2 leaves g kind
unfolding stage2
frame-some g word leaves kind found = frame-found (host_page g) word kind (host_leaf g leaves) found

-- a leaf of 4 KiB, by its word
pub small-says : (space page word : ℕ) → IsPageWord page word (small_leaf space page word)
small-says space page word = record { frame = omega arith; perm = refl }

pub small-frame : (page word : ℕ) (kind : Kind) → frame_said kind word ≡ frame_of (reply_by (Some (small_leaf 0 page word)) page kind)
small-frame page word kind = frame-found page word kind (Some (small_leaf 0 page word)) (small-says 0 page word)
