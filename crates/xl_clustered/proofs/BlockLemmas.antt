-- What a block that is written makes of the slots.
use Rattle.xl_clustered.proofs.Common.{◌+◌, ◌-◌, ◌<◌, ◌==◌, ◌||◌, ◌∙◌, ◌∷◌, ◌≡◌, ◌≤◌, [], ap, AreBlocks, arith, Bool, ChainState, cond, eq-eqb, eqb-true, Err, false, found-under, found_of, given_word, has_tag, Held, held_with, inl, inr, inserted-put, is_entry, IsCountedBlock, IsNewBlock, IsPut, IsSameTable, IsSet, IsTaken, IsUnderTag, IsWritten, len-set, length, length-map, List, list_any, map, ne_eqb, not, Ok, OnErr, OnOk, refl, removed-taken, Result, rewritten, same-entry, set-by, set-other, set-same, Sixteen, slice_index, slice_set, subst, sym, tag-held, tags-set, tags_of, true, used_in, values-front, values-without, values_under, with_value, without_tag, word-first, word_at, word_found, ℕ}
use Rattle.xl_chain.specs.Kept.{IsInserted}
use Rattle.xl_chain.specs.Lines.{AreSingle}
use Rattle.xl_list_lemmas.proofs.MemberLemmas.{both, filter-In, map-In}
use Rattle.xl_list_lemmas.specs.Members.{In}
use Rattle.xl_model.specs.Words.{leaf_word}
use Rattle.xl_model.specs.declared.perm.Perm.{Perm}
use Rattle.xl_model.specs.declared.work.Full.{Full}
use Rattle.xl_tagged.proofs.StateLemmas.{held-in, tag-with, with-there}
use Rattle.xl_tagged.specs.Tagged.{AreSized}
use Rattle.xl_clustered.proofs.UsedLemmas.{used-less, used-more, used-only, used-single, used-some, used-stays}
use Rattle.xl_chain.specs.declared.shape.Seek.TheVariants as seek

-- a value that is set changes no entry's number
with-entry : (e i w : ℕ) (g : Held) → (with_value e i w g).entry ≡ g.entry
with-entry e i w g = elim (is_entry e g) as (λ b. (cond b (record g { values = slice_set g.values i w }) g).entry ≡ g.entry) [ true ↦ refl | false ↦ refl ]

with-tag-of : (e i w : ℕ) (g : Held) → (with_value e i w g).tag ≡ g.tag
with-tag-of e i w g = elim (is_entry e g) as (λ b. (cond b (record g { values = slice_set g.values i w }) g).tag ≡ g.tag) [ true ↦ refl | false ↦ refl ]

pub any-set : (e i w : ℕ) (hs : List Held) → list_any (is_entry e) (map (with_value e i w) hs) ≡ list_any (is_entry e) hs
any-set e i w [] = refl
any-set e i w (g ∷ hs) =
    ap (λ (n : ℕ). (n == e) || list_any (is_entry e) (map (with_value e i w) hs)) (with-entry e i w g)
    ∙ ap (λ b. is_entry e g || b) (any-set e i w hs)

-- the values under each tag, after a block was written
abbrev pub block_with : ℕ → ℕ → ℕ → List ℕ → List ℕ
block_with used slot word vs = slice_set (slice_set vs 0 used) (slot + 1) word

pub values-written : (tag e v used slot word : ℕ) (old : ChainState) → AreSingle old.held → IsUnderTag tag old.held e v
    → (t : ℕ) → values_under (rewritten e used slot word old.held) t ≡ cond (tag == t) (block_with used slot word (values_under old.held t)) (values_under old.held t)
values-written tag e v used slot word old single u t =
    let hs : List Held = old.held in
    let mid : List Held = map (with_value e 0 used) hs in
    let same : (g : Held) → In g hs → is_entry e g ≡ (g.tag == tag) = (λ g i. same-entry tag e v hs single u g i) in
    set-by tag e (slot + 1) word mid (λ g i. middle g (map-In (with_value e 0 used) g hs i) same) t
    ∙ two (tag == t) (set-by tag e 0 used hs same t)
  where
    middle : (g : Held) → ((h : Held) × In h old.held × (g ≡ with_value e 0 used h)) → ((h : Held) → In h old.held → is_entry e h ≡ (h.tag == tag)) → is_entry e g ≡ (g.tag == tag)
    middle g (h, i, q) same =
        ap (λ (k : Held). k.entry == e) q ∙ ap (λ (n : ℕ). n == e) (with-entry e 0 used h) ∙ same h i
        ∙ ap (λ (n : ℕ). n == tag) (sym (with-tag-of e 0 used h)) ∙ ap (λ (k : Held). k.tag == tag) (sym q)

    two : (b : Bool) → values_under (map (with_value e 0 used) old.held) t ≡ cond b (slice_set (values_under old.held t) 0 used) (values_under old.held t)
        → cond b (slice_set (values_under (map (with_value e 0 used) old.held) t) (slot + 1) word) (values_under (map (with_value e 0 used) old.held) t)
        ≡ cond b (block_with used slot word (values_under old.held t)) (values_under old.held t)
    two true q = ap (λ (vs : List ℕ). slice_set vs (slot + 1) word) q
    two false q = q

-- the words of a block that was written
pub record IsBlockWith (used slot word : ℕ) (old new : List ℕ) : Type 0 where
  pub size : length new ≡ length old
  pub count : slice_index new 0 ≡ used
  pub here : slice_index new (1 + slot) ≡ word
  pub others : (i : ℕ) → (i ≡ slot → ⊥) → slice_index new (1 + i) ≡ slice_index old (1 + i)

block-with : (used slot word : ℕ) (vs : List ℕ) → length vs ≡ 17 → slot < 16 → IsBlockWith used slot word vs (block_with used slot word vs)
block-with used slot word vs len low =
    let mid : List ℕ = slice_set vs 0 used in
    let len2 : length mid ≡ 17 = len-set true vs 0 used ∙ len in
    record {
      size = len-set true mid (slot + 1) word ∙ len-set true vs 0 used;
      count = set-other mid (slot + 1) 0 word (λ e. absurd (omega arith)) ∙ set-same vs 0 used (omega arith);
      here = ap (slice_index (block_with used slot word vs)) (turn slot) ∙ set-same mid (slot + 1) word (omega arith);
      others = λ i other. set-other mid (slot + 1) (1 + i) word (λ e. other (omega arith)) ∙ set-other vs 0 (1 + i) used (λ e. absurd (omega arith));
    }
  where
    turn : (n : ℕ) → 1 + n ≡ n + 1
    turn n = omega arith

-- A block that was written: its words, those of other tags, and the table around them.
pub record IsWrote (tag used slot word : ℕ) (old new : ChainState) : Type 0 where
  pub block : IsBlockWith used slot word (values_under old.held tag) (values_under new.held tag)
  pub others : (t : ℕ) → (t ≡ tag → ⊥) → values_under new.held t ≡ values_under old.held t
  pub tags : tags_of new.held ≡ tags_of old.held
  pub there : In tag (tags_of old.held)
  pub rest : IsSameTable Sixteen old new

pub wrote : (tag e v used slot word : ℕ) (old new : ChainState) → AreSingle old.held → IsUnderTag tag old.held e v → new.held ≡ rewritten e used slot word old.held → new.shape ≡ old.shape → new.loads ≡ old.loads
    → slot < 16 → AreSized Sixteen old.held → length old.held ≤ old.shape.entries → IsWrote tag used slot word old new
wrote tag e v used slot word old new single u held shape loads low sized within =
    let hs : List Held = old.held in
    let values : (t : ℕ) → values_under new.held t ≡ cond (tag == t) (block_with used slot word (values_under hs t)) (values_under hs t) =
    (λ t. ap (λ gs. values_under gs t) held ∙ values-written tag e v used slot word old single u t) in
    let there : In tag (tags_of hs) = held-in (tags_of hs) tag (tag-held tag e v hs u) in
    let tags : tags_of new.held ≡ tags_of hs = ap tags_of held ∙ tags-set e (slot + 1) word (map (with_value e 0 used) hs) ∙ tags-set e 0 used hs in
    let is : values_under new.held tag ≡ block_with used slot word (values_under hs tag) = values tag ∙ ap (λ b. cond b (block_with used slot word (values_under hs tag)) (values_under hs tag)) (eq-eqb tag tag refl) in
    let block : IsBlockWith used slot word (values_under hs tag) (values_under new.held tag) = subst (λ vs. IsBlockWith used slot word (values_under hs tag) vs) (sym is) (block-with used slot word (values_under hs tag) (sized tag there) low) in
    let apart : (t : ℕ) → (t ≡ tag → ⊥) → values_under new.held t ≡ values_under hs t =
    (λ t other. values t ∙ ap (λ b. cond b (block_with used slot word (values_under hs t)) (values_under hs t)) (ne_eqb tag t (λ q. other (sym q)))) in
    record {
      block = block;
      others = apart;
      tags = tags;
      there = there;
      rest = record {
        sized = λ t i.
            elim (t == tag) as (λ b. (t == tag) ≡ b → length (values_under new.held t) ≡ 17) [
              | true ↦ λ k. ap (λ n. length (values_under new.held n)) (eqb-true t tag k) ∙ block.size ∙ sized tag there
              | false ↦ λ k. ap (λ (vs : List ℕ). length vs) (apart t (λ q. both _ (eq-eqb t tag q) k)) ∙ sized t (subst (λ ts. In t ts) tags i)
            ] refl;
        within = (let n : length new.held ≡ length hs = ap (λ (gs : List Held). length gs) held ∙ length-map (map (with_value e 0 used) hs) (with_value e (slot + 1) word) ∙ length-map hs (with_value e 0 used) in omega arith);
        shape = shape;
        loads = loads;
      };
    }

pub wrote-slot : (tag used slot word : ℕ) (old new : ChainState) → IsWrote tag used slot word old new → IsWritten Sixteen (values_under old.held) (values_under new.held) tag slot word
wrote-slot tag used slot word old new w = record {
  here = w.block.here;
  others = λ t i low other.
      elim (t == tag) as (λ b. (t == tag) ≡ b → word_at Sixteen (values_under new.held) t i ≡ word_at Sixteen (values_under old.held) t i) [
        | true ↦ λ k.
            let same : t ≡ tag = eqb-true t tag k in
            ap (λ n. word_at Sixteen (values_under new.held) n i) same ∙ w.block.others i (other same) ∙ sym (ap (λ n. word_at Sixteen (values_under old.held) n i) same)
        | false ↦ λ k. ap (λ (vs : List ℕ). slice_index vs (1 + i)) (w.others t (λ q. both _ (eq-eqb t tag q) k))
      ] refl;
}

-- the slots in use after it
abbrev pub slots_of : List ℕ → ℕ → ℕ
slots_of vs i = slice_index vs (1 + i)

pub wrote-blocks : (tag used slot word : ℕ) (old new : ChainState) → IsWrote tag used slot word old new → AreBlocks old.held → used ≡ used_in (slots_of (values_under new.held tag)) 16 → AreBlocks new.held
wrote-blocks tag used slot word old new w blocks is t i =
    elim (t == tag) as (λ b. (t == tag) ≡ b → IsCountedBlock (values_under new.held t)) [
      | true ↦ λ k. let P : ℕ → Type 0 = λ n. IsCountedBlock (values_under new.held n) in subst P (sym (eqb-true t tag k)) (record { count = w.block.count ∙ is })
      | false ↦ λ k. subst IsCountedBlock (sym (w.others t (λ q. both _ (eq-eqb t tag q) k))) (blocks t (subst (λ ts. In t ts) w.tags i))
    ] refl

pub wrote-put : (tag used slot word : ℕ) (old new : ChainState) → IsWrote tag used slot word old new → has_tag (tags_of old.held) tag ≡ true → IsPut Sixteen tag slot word old new
wrote-put tag used slot word old new w held = record {
  written = wrote-slot tag used slot word old new w;
  tags = w.tags ∙ sym (with-there old.shape.buckets tag (tags_of old.held) held);
  rest = w.rest;
}

pub wrote-set : (tag used slot word : ℕ) (old new : ChainState) → IsWrote tag used slot word old new → IsSet Sixteen tag slot word old new
wrote-set tag used slot word old new w = record { written = wrote-slot tag used slot word old new w; tags = w.tags; rest = w.rest }

-- the number in a block that is held
pub count-of : (tag e v : ℕ) (hs : List Held) → AreBlocks hs → IsUnderTag tag hs e v → slice_index (values_under hs tag) 0 ≡ v → v ≡ used_in (slots_of (values_under hs tag)) 16
count-of tag e v hs blocks u first = sym first ∙ (blocks tag (held-in (tags_of hs) tag (tag-held tag e v hs u))).count

-- a slot that is put into a block that is there
pub put-count : (tag v slot word : ℕ) (old new : ChainState) → IsWrote tag (v + 1) slot word old new → slot < 16 → 0 < word → word_at Sixteen (values_under old.held) tag slot ≡ 0
    → v ≡ used_in (slots_of (values_under old.held tag)) 16 → v + 1 ≡ used_in (slots_of (values_under new.held tag)) 16
put-count tag v slot word old new w low some empty is =
    let h = w.block.here in
    let e = used-more (slots_of (values_under old.held tag)) (slots_of (values_under new.held tag)) slot low (λ i l other. w.block.others i other) empty (λ z. absurd (omega arith)) in
    omega arith

-- a slot that is emptied in a block with others
pub take-count : (tag v slot : ℕ) (old new : ChainState) → IsWrote tag (v - 1) slot 0 old new → slot < 16 → (word_at Sixteen (values_under old.held) tag slot ≡ 0 → ⊥) → 1 < v
    → v ≡ used_in (slots_of (values_under old.held tag)) 16 → v - 1 ≡ used_in (slots_of (values_under new.held tag)) 16
take-count tag v slot old new w low some many is =
    let e = used-less (slots_of (values_under old.held tag)) (slots_of (values_under new.held tag)) slot low (λ i l other. w.block.others i other) some w.block.here in
    omega arith

pub wrote-taken : (tag used slot : ℕ) (old new : ChainState) → IsWrote tag used slot 0 old new → used ≡ used_in (slots_of (values_under new.held tag)) 16 → 0 < used → IsTaken Sixteen tag slot old new
wrote-taken tag used slot old new w is some =
    let r = used-some (slots_of (values_under new.held tag)) 16 (omega arith) in
    record {
      written = wrote-slot tag used slot 0 old new w;
      tags = inl (record { tags = w.tags; slot = r.0; slot_in = r.1; used = r.2 });
      rest = w.rest;
    }

pub give-count : (tag v slot word : ℕ) (old new : ChainState) → IsWrote tag v slot word old new → slot < 16 → 0 < word → (word_at Sixteen (values_under old.held) tag slot ≡ 0 → ⊥)
    → v ≡ used_in (slots_of (values_under old.held tag)) 16 → v ≡ used_in (slots_of (values_under new.held tag)) 16
give-count tag v slot word old new w low some used is =
    let h = w.block.here in
    is ∙ sym (used-stays (slots_of (values_under old.held tag)) (slots_of (values_under new.held tag)) slot low (λ i l other. w.block.others i other) used (λ z. absurd (omega arith)))

-- a new block
pub new-put : (tag slot word : ℕ) (vs : List ℕ) (r : Result (Unit {0}) Full) (old new : ChainState) → OnOk r (IsInserted tag vs old new) → has_tag (tags_of old.held) tag ≡ false → AreSized Sixteen old.held
    → IsNewBlock slot word vs → OnOk r (IsPut Sixteen tag slot word old new)
new-put tag slot word vs (Ok u) old new ins absent sized b = inserted-put Sixteen tag slot word vs old new absent ins b.size b.here b.others sized
new-put tag slot word vs (Err e) old new ins absent sized b = tt

pub new-blocks : (tag slot word : ℕ) (vs : List ℕ) (r : Result (Unit {0}) Full) (old new : ChainState) → OnOk r (IsInserted tag vs old new) → OnErr r (new ≡ old) → has_tag (tags_of old.held) tag ≡ false
    → slot < 16 → 0 < word → IsNewBlock slot word vs → AreBlocks old.held → AreSized Sixteen old.held → AreBlocks new.held
new-blocks tag slot word vs (Err e) old new ins same absent low some b blocks sized = let P : ChainState → Type 0 = λ d. AreBlocks d.held in subst P (sym same) blocks
new-blocks tag slot word vs (Ok u) old new ins same absent low some b blocks sized = λ t i.
    let h : Held = record { entry = ins.held.0; tag = tag; values = vs } in
    let values : (n : ℕ) → values_under new.held n ≡ cond (tag == n) vs (values_under old.held n) = (λ n. ap (λ gs. values_under gs n) ins.held.3 ∙ values-front old.shape.buckets h old.held n absent) in
    let put : IsPut Sixteen tag slot word old new = inserted-put Sixteen tag slot word vs old new absent ins b.size b.here b.others sized in
    elim (tag == t) as (λ c. (tag == t) ≡ c → IsCountedBlock (values_under new.held t)) [
      | true ↦ λ k. subst IsCountedBlock (sym (values t ∙ ap (λ c. cond c vs (values_under old.held t)) k)) (record {
        count = b.count ∙ sym (used-single (slots_of vs) slot low (λ z. let e = b.here in absurd (omega arith)) b.others);
      })
      | false ↦ λ k. subst IsCountedBlock (sym (values t ∙ ap (λ c. cond c vs (values_under old.held t)) k)) (blocks t
          (elim ((tag-with old.shape.buckets tag (tags_of old.held)).split t (subst (λ ts. In t ts) put.tags i)) [ inl e ↦ absurd (both _ (eq-eqb tag t (sym e)) k) | inr j ↦ j ]))
    ] refl

-- a block that goes
pub gone-taken : (tag v slot : ℕ) (old new : ChainState) → new.held ≡ without_tag tag old.held → new.shape ≡ old.shape → new.loads ≡ old.loads → v ≤ 1 → v ≡ used_in (slots_of (values_under old.held tag)) 16
    → slot < 16 → (word_at Sixteen (values_under old.held) tag slot ≡ 0 → ⊥) → AreSized Sixteen old.held → length old.held ≤ old.shape.entries → IsTaken Sixteen tag slot old new
gone-taken tag v slot old new held shape loads few is low some sized within =
    removed-taken Sixteen tag slot old new held shape loads (used-only (slots_of (values_under old.held tag)) slot low (omega arith) some) sized within

pub gone-blocks : (tag slot : ℕ) (old new : ChainState) → new.held ≡ without_tag tag old.held → IsTaken Sixteen tag slot old new → AreBlocks old.held → AreBlocks new.held
gone-blocks tag slot old new held taken blocks = λ t i.
    let values : values_under new.held t ≡ cond (tag == t) [] (values_under old.held t) = ap (λ gs. values_under gs t) held ∙ values-without tag old.held t in
    elim (tag == t) as (λ c. (tag == t) ≡ c → IsCountedBlock (values_under new.held t)) [
      | true ↦ λ k. let n : length (values_under new.held t) ≡ 17 = taken.rest.sized t i in
          let m : length (values_under new.held t) ≡ 0 = ap (λ (vs : List ℕ). length vs) (values ∙ ap (λ c. cond c [] (values_under old.held t)) k) in
          absurd (omega arith)
      | false ↦ λ k. subst IsCountedBlock (sym (values ∙ ap (λ c. cond c [] (values_under old.held t)) k)) (blocks t (was t i k))
    ] refl
  where
    was : (t : ℕ) → In t (tags_of new.held) → (tag == t) ≡ false → In t (tags_of old.held)
    was t i k = elim taken.tags [
      | inl a ↦ subst (λ ts. In t ts) a.tags i
      | inr a ↦ filter-In (λ u. not (u == tag)) t (tags_of old.held) (subst (λ ts. In t ts) a.tags i)
    ]

-- value 0 under a tag that is found
pub found-first : (tag e v : ℕ) (hs : List Held) → found_of (held_with tag hs) ≡ seek.Found e v → slice_index (values_under hs tag) 0 ≡ v
found-first tag e v hs f = sym (word-first tag hs) ∙ ap word_found f

pub found-count : (tag e v : ℕ) (hs : List Held) → AreBlocks hs → found_of (held_with tag hs) ≡ seek.Found e v → v ≡ used_in (slots_of (values_under hs tag)) 16
found-count tag e v hs blocks f = count-of tag e v hs blocks (found-under tag hs e v f) (found-first tag e v hs f)

-- a word with another permission is a leaf's
pub given-some : (perm : Perm) (word : ℕ) → 0 < given_word perm word
unfolding leaf_word
given-some perm word = omega arith
