-- Items that a row is served with their lines: an event, and an access with the events of its demand.
use Rattle.xl_rack.proofs.Common.{◌++◌, ◌∙◌, ◌∷◌, ◌≡◌, [], access_line, access_served, accessed, accessed_by, after_event, after_of, again_where, All-cons, answer_line, ap, append-nil, Area, area_for, area_wanted, arith, Bool, Command, Declared, demand_after, demand_lines, demanded, done, EqualWhere, Event, event_line, false, is_canonical, IsNamed, Item, item_lines, Kind, List, looked, looked_by, looked_where, map, map_of, None, Option, outcome_of, page_of, Referenced, referenced, refl, reply_to, Row, row_of, rows_after, rows_lines, RowState, second_line, Served, served_after, served_of, sink_cut, sink_same, sink_then, SinkAfter, SinkMeaning, Slot, slot_form, Some, state_after, subst, suc, sym, true, walk_filled, walk_made, wanted, ℕ}
use Rattle.xl_model.specs.Mapping.{leaf_at_page}
use Rattle.xl_model.specs.Rules.{rule}
use Rattle.xl_model.specs.Tally.{count_look}
use Rattle.xl_model.specs.Tlb.{Answer, answer_of}
use Rattle.xl_model.specs.declared.event.Outcome.{Outcome}
use Rattle.xl_model.specs.declared.leaf.Leaf.{Leaf}
use Rattle.xl_model.specs.declared.leaf.Reply.{Reply}
use Rattle.xl_model.specs.declared.row.Row.{Row as RowFields}
use Rattle.xl_rack.proofs.SlotLemmas.{named-row}
use Rattle.xl_rack.specs.Answers.{designs, EachAnswered, HasAnswered}
use Rattle.xl_model.specs.declared.event.Event.TheVariants as event
use Rattle.xl_model.specs.declared.event.Outcome.TheVariants as outcome
use Rattle.xl_model.specs.declared.leaf.Reply.TheVariants as reply

access-lines : (number va : ℕ) (k : Kind) (areas : List Area) (row : Row) (s : RowState)
    → item_lines (Referenced number va k) areas row s ≡ access_line row number va k s ++ demand_lines (area_wanted row va k areas s) row number va k (after_event row (event.Access va k) s)
unfolding item_lines
access-lines number va k areas row s = refl

pub referenced-is : (va : ℕ) (k : Kind) (areas : List Area) (row : Row) (s : RowState)
    → referenced row va k areas s ≡ demanded (area_wanted row va k areas s) row va (event.Access va k) (after_event row (event.Access va k) s)
unfolding referenced
referenced-is va k areas row s = refl

access-after : (number va : ℕ) (k : Kind) (areas : List Area) (v : Served) → access_served va k areas v ≡ served_after (Referenced number va k) areas v
unfolding state_after
access-after number va k areas v = refl

command-lines : (e : Event) (areas : List Area) (v : Served) → item_lines (Command e) areas v.row v.state ≡ event_line v.row e v.state
unfolding item_lines
command-lines e areas v = refl

command-after : (e : Event) (areas : List Area) (v : Served) → served_after (Command e) areas v ≡ after_of e v
unfolding state_after
command-after e areas v = refl

declared-lines : (area : Area) (areas : List Area) (v : Served) → item_lines (Declared area) areas v.row v.state ≡ []
unfolding item_lines
declared-lines area areas v = refl

declared-after : (area : Area) (areas : List Area) (v : Served) → served_after (Declared area) areas v ≡ v
unfolding state_after
declared-after area areas v = refl

-- an access leaves the current space
filled-space : (k : Kind) (found : Option Leaf) (s : RowState) → (walk_filled k found s).space ≡ s.space
filled-space k None s = refl
filled-space k (Some leaf) s = refl

looked-space : (k : Kind) (answer : Option Answer) (page : ℕ) (s : RowState) → (looked_by k answer page s).space ≡ s.space
looked-space k None page s =
    filled-space k (leaf_at_page s.space page s.table.leaves) (walk_made s.space page (record s { counts = count_look k None s.space page s.arrays s.counts }))
looked-space k (Some answer) page s = refl

where-space : (there : Bool) (k : Kind) (page : ℕ) (s : RowState) → (looked_where there k page s).space ≡ s.space
unfolding looked
where-space true k page s = looked-space k (answer_of k s.arrays s.space page) page s
where-space false k page s = refl

pub access-space : (row : Row) (va : ℕ) (k : Kind) (s : RowState) → (after_event row (event.Access va k) s).space ≡ s.space
unfolding after_event rule done accessed
access-space row va k s = where-space (is_canonical row.mode va) k (page_of row.mode va) s

-- the line of an access, by what its machine tells after it
pub line-known : (number va space : ℕ) (k : Kind) (answer : Reply) (row : RowFields) (v w : Served) → answer ≡ reply_to v.row v.state va k → w ≡ after_of (event.Access va k) v
    → space ≡ w.state.space → row_of row ≡ w.row → answer_line row.name.bytes number k space va answer ≡ access_line v.row number va k v.state
line-known number va space k answer row v w is after at named =
    let s : space ≡ v.state.space = at ∙ ap (λ (u : Served). u.state.space) after ∙ access-space v.row va k v.state in
    let same : row_of row ≡ v.row = named ∙ ap (λ (u : Served). u.row) after in
    rw (s, is) (ap (λ (r : Row). answer_line r.name number k v.state.space va (reply_to v.row v.state va k)) same)

-- what an access wants, by its reply
wanted-alone : (answer : Reply) (area : Option Area) → (answer ≡ reply.Unmapped → ⊥) → wanted answer area ≡ None
wanted-alone reply.NotCanonical area not = refl
wanted-alone reply.Unmapped area not = absurd (not refl)
wanted-alone reply.Denied area not = refl
wanted-alone (reply.Frame frame) area not = refl

-- the access is served, and then the map that it demands
access-is : (va : ℕ) (k : Kind) (areas : List Area) (v : Served) (answer : Reply) → answer ≡ reply_to v.row v.state va k
    → access_served va k areas v ≡ demand_after (wanted answer (area_for v.state.space va areas)) va k (accessed_by va k v)
access-is va k areas v answer e =
    ap (λ s. record v { state = s }) (referenced-is va k areas v.row v.state)
    ∙ ap (λ (a : Reply). demand_after (wanted a (area_for v.state.space va areas)) va k (accessed_by va k v)) (sym e)

pub access-demands : (va : ℕ) (k : Kind) (areas : List Area) (v m n : Served) (answer : Reply) → answer ≡ reply_to v.row v.state va k → answer ≡ reply.Unmapped
    → m ≡ accessed_by va k v → n ≡ demand_after (area_for m.state.space va areas) va k m → n ≡ access_served va k areas v
access-demands va k areas v m n answer e u after d =
    d ∙ ap (λ (z : Served). demand_after (area_for z.state.space va areas) va k z) after
    ∙ ap (λ (space : ℕ). demand_after (area_for space va areas) va k (accessed_by va k v)) (access-space v.row va k v.state)
    ∙ ap (λ (a : Reply). demand_after (wanted a (area_for v.state.space va areas)) va k (accessed_by va k v)) (sym u)
    ∙ sym (access-is va k areas v answer e)

pub access-alone : (va : ℕ) (k : Kind) (areas : List Area) (v m : Served) (answer : Reply) → answer ≡ reply_to v.row v.state va k → (answer ≡ reply.Unmapped → ⊥)
    → m ≡ accessed_by va k v → m ≡ access_served va k areas v
access-alone va k areas v m answer e not after =
    after
    ∙ ap (λ (z : Option Area). demand_after z va k (accessed_by va k v)) (sym (wanted-alone answer (area_for v.state.space va areas) not))
    ∙ sym (access-is va k areas v answer e)

-- the lines of an access and of what it demands
lines-demanded : (number va : ℕ) (k : Kind) (areas : List Area) (v m : Served) (answer : Reply) → answer ≡ reply_to v.row v.state va k → answer ≡ reply.Unmapped → m ≡ accessed_by va k v
    → access_line v.row number va k v.state ++ demand_lines (area_for m.state.space va areas) m.row number va k m.state ≡ item_lines (Referenced number va k) areas v.row v.state
lines-demanded number va k areas v m answer e u after =
    ap (λ (z : Served). access_line v.row number va k v.state ++ demand_lines (area_for z.state.space va areas) z.row number va k z.state) after
    ∙ ap (λ (space : ℕ). access_line v.row number va k v.state ++ demand_lines (area_for space va areas) v.row number va k (accessed_by va k v).state) (access-space v.row va k v.state)
    ∙ ap (λ (a : Reply). access_line v.row number va k v.state ++ demand_lines (wanted a (area_for v.state.space va areas)) v.row number va k (accessed_by va k v).state) (sym u ∙ e)
    ∙ sym (access-lines number va k areas v.row v.state)

lines-alone : (number va : ℕ) (k : Kind) (areas : List Area) (v : Served) (answer : Reply) → answer ≡ reply_to v.row v.state va k → (answer ≡ reply.Unmapped → ⊥)
    → access_line v.row number va k v.state ≡ item_lines (Referenced number va k) areas v.row v.state
lines-alone number va k areas v answer e not =
    sym (append-nil (access_line v.row number va k v.state))
    ∙ ap (λ (z : Option Area). access_line v.row number va k v.state ++ demand_lines z v.row number va k (accessed_by va k v).state) (sym (wanted-alone answer (area_for v.state.space va areas) not))
    ∙ ap (λ (a : Reply). access_line v.row number va k v.state ++ demand_lines (wanted a (area_for v.state.space va areas)) v.row number va k (accessed_by va k v).state) e
    ∙ sym (access-lines number va k areas v.row v.state)

pub equal-as : {A : Type 0} (whole : Bool) (x y z : A) → EqualWhere whole x y → y ≡ z → EqualWhere whole x z
equal-as true x y z is e = is ∙ e
equal-as false x y z is e = tt

pub equal-where : {A : Type 0} (whole : Bool) (x y : A) → x ≡ y → EqualWhere whole x y
equal-where true x y is = is
equal-where false x y is = tt

module _ {K : Type 0} (sink : SinkMeaning K) where
  -- an event of a command, and an area
  pub command-answered : (item : Item) (e : Event) (areas : List Area) (v w : Served) (k l : K) (whole : Bool) → item ≡ Command e → w ≡ after_of e v
      → SinkAfter sink (event_line v.row e v.state) k l whole
      → HasAnswered sink (served_after item areas) (λ u. item_lines item areas u.row u.state) v w k l whole
  command-answered item e areas v w k l whole is after line = rw is (record {
    row_stays = ap (λ (u : Served). u.row) after;
    row_is = equal-where whole w (served_after (Command e) areas v) (after ∙ sym (command-after e areas v));
    writes = subst (λ (t : List ℕ). SinkAfter sink t k l whole) (sym (command-lines e areas v)) line;
  })

  pub declared-answered : (item : Item) (area : Area) (areas : List Area) (v : Served) (k : K) → item ≡ Declared area
      → HasAnswered sink (served_after item areas) (λ u. item_lines item areas u.row u.state) v v k k true
  declared-answered item area areas v k is = rw is (record {
    row_stays = refl;
    row_is = sym (declared-after area areas v);
    writes = subst (λ (t : List ℕ). SinkAfter sink t k k true) (sym (declared-lines area areas v)) (sink_same sink k);
  })

  pub reference-answered : (item : Item) (number va : ℕ) (kind : Kind) (areas : List Area) (v w : Served) (k l : K) (whole : Bool) → item ≡ Referenced number va kind
      → HasAnswered sink (access_served va kind areas) (λ u. item_lines (Referenced number va kind) areas u.row u.state) v w k l whole
      → HasAnswered sink (served_after item areas) (λ u. item_lines item areas u.row u.state) v w k l whole
  reference-answered item number va kind areas v w k l whole is x = rw is (record {
    row_stays = x.row_stays;
    row_is = equal-as whole w _ _ x.row_is (access-after number va kind areas v);
    writes = x.writes;
  })

module _ {K : Type 0} (sink : SinkMeaning K) (number va : ℕ) (kind : Kind) where
  abbrev MapAnswered : Option Area → Served → Served → K → K → Bool → Type 0
  MapAnswered area v w k l whole = HasAnswered sink (demand_after area va kind) (λ u. demand_lines area u.row number va kind u.state) v w k l whole

  -- the map of a demand was done, and the access was served once more
  pub map-again : (area : Area) (e : Event) (o : Outcome) (v m w : Served) (a b c : K) (whole : Bool) → e ≡ map_of area va → o ≡ outcome_of v.row e v.state → o ≡ outcome.Done → m ≡ after_of e v
      → SinkAfter sink (event_line v.row e v.state) a b true → w ≡ accessed_by va kind m
      → SinkAfter sink (access_line m.row number va kind m.state) b c whole → MapAnswered (Some area) v w a c whole
  map-again area e o v m w a b c whole map end done after first second next =
      let is_done : outcome.Done ≡ outcome_of v.row e v.state = sym done ∙ end in
      let lines : event_line v.row e v.state ++ access_line m.row number va kind m.state ≡ demand_lines (Some area) v.row number va kind v.state =
      rw after (ap (λ (z : Outcome). event_line v.row e v.state ++ second_line z v.row number va kind (after_event v.row e v.state)) is_done ∙ rw map refl) in
      let same : accessed_by va kind m ≡ demand_after (Some area) va kind v =
      rw after (ap (λ (z : Outcome). record v { state = again_where z v.row (event.Access va kind) (after_event v.row e v.state) }) is_done ∙ rw map refl) in
      record {
        row_stays = ap (λ (u : Served). u.row) second ∙ ap (λ (u : Served). u.row) after;
        row_is = equal-where whole w _ (second ∙ same);
        writes = subst (λ (t : List ℕ). SinkAfter sink t a c whole) lines (sink_then sink (event_line v.row e v.state) (access_line m.row number va kind m.state) a b c whole first next);
      }

  abbrev AccessAnswered : List Area → Served → Served → K → K → Bool → Type 0
  AccessAnswered areas v w k l whole = HasAnswered sink (access_served va kind areas) (λ u. item_lines (Referenced number va kind) areas u.row u.state) v w k l whole

  demand-is : (areas : List Area) (v m w : Served) (answer : Reply) (whole : Bool) → answer ≡ reply_to v.row v.state va kind → answer ≡ reply.Unmapped → m ≡ accessed_by va kind v
      → EqualWhere whole w (demand_after (area_for m.state.space va areas) va kind m) → EqualWhere whole w (access_served va kind areas v)
  demand-is areas v m w answer true known unmapped after is = access-demands va kind areas v m w answer known unmapped after is
  demand-is areas v m w answer false known unmapped after is = tt

  -- an access, and its demand
  pub access-then : (areas : List Area) (answer : Reply) (v m w : Served) (a b c : K) (whole : Bool) → answer ≡ reply_to v.row v.state va kind → answer ≡ reply.Unmapped → m ≡ accessed_by va kind v
      → SinkAfter sink (access_line v.row number va kind v.state) a b true → MapAnswered (area_for m.state.space va areas) m w b c whole → AccessAnswered areas v w a c whole
  access-then areas answer v m w a b c whole known unmapped after first next = record {
    row_stays = next.row_stays ∙ ap (λ (u : Served). u.row) after;
    row_is = demand-is areas v m w answer whole known unmapped after next.row_is;
    writes = subst (λ (t : List ℕ). SinkAfter sink t a c whole) (lines-demanded number va kind areas v m answer known unmapped after)
        (sink_then sink (access_line v.row number va kind v.state) (demand_lines (area_for m.state.space va areas) m.row number va kind m.state) a b c whole first next.writes);
  }

  pub access-only : (areas : List Area) (answer : Reply) (v m : Served) (a b : K) → answer ≡ reply_to v.row v.state va kind → (answer ≡ reply.Unmapped → ⊥) → m ≡ accessed_by va kind v
      → SinkAfter sink (access_line v.row number va kind v.state) a b true → AccessAnswered areas v m a b true
  access-only areas answer v m a b known not after first = record {
    row_stays = ap (λ (u : Served). u.row) after;
    row_is = access-alone va kind areas v m answer known not after;
    writes = subst (λ (t : List ℕ). SinkAfter sink t a b true) (lines-alone number va kind areas v answer known not) first;
  }

  pub access-cut : (areas : List Area) (v m : Served) (a b : K) → m ≡ accessed_by va kind v → SinkAfter sink (access_line v.row number va kind v.state) a b false
      → AccessAnswered areas v m a b false
  access-cut areas v m a b after first = record {
    row_stays = ap (λ (u : Served). u.row) after;
    row_is = tt;
    writes = subst (λ (t : List ℕ). SinkAfter sink t a b false) (sym (access-lines number va kind areas v.row v.state))
        (sink_cut sink (access_line v.row number va kind v.state) (demand_lines (area_wanted v.row va kind areas v.state) v.row number va kind (after_event v.row (event.Access va kind) v.state)) a b first);
  }

module _ {K : Type 0} (sink : SinkMeaning K) (item : Item) (areas : List Area) where
  abbrev ItemAnswered : Slot → Slot → K → K → Bool → Type 0
  ItemAnswered s t k l whole = HasAnswered sink (served_after item areas) (λ u. item_lines item areas u.row u.state) (served_of s) (served_of t) k l whole

  rows-then : (whole : Bool) (s t : Served) (ss ts : List Served) → s ≡ t → EqualWhere whole ss ts → EqualWhere whole (s ∷ ss) (t ∷ ts)
  rows-then true s t ss ts e h = ap (λ (x : Served). x ∷ ss) e ∙ ap (λ (xs : List Served). t ∷ xs) h
  rows-then false s t ss ts e h = tt

  -- a slot, and those behind it
  pub answered-then : (slots : List Slot) (s t : Slot) (ss ts : List Slot) (a b c : K) (whole : Bool) → slots ≡ s ∷ ss → slot_form t ≡ slot_form s → ItemAnswered s t a b true
      → EachAnswered sink item areas ss ts b c whole → EachAnswered sink item areas slots (t ∷ ts) a c whole
  answered-then slots s t ss ts a b c whole are form first next = rw are (record {
    rows_are = rows-then whole (served_of t) (served_after item areas (served_of s)) (map served_of ts) (rows_after item areas (map served_of ss)) first.row_is next.rows_are;
    stay = ap (λ (r : Row). r ∷ designs (map served_of ts)) first.row_stays ∙ ap (λ (rs : List Row). (served_of s).row ∷ rs) next.stay;
    named = λ all. All-cons IsNamed t ts (named-row s t first.row_stays form (all 0 s (omega arith))) (next.named (λ k d less. all (suc k) d (omega arith)));
    writes = sink_then sink (item_lines item areas (served_of s).row (served_of s).state) (rows_lines item areas (map served_of ss)) a b c whole first.writes next.writes;
  })

  -- a slot at which a put failed
  pub answered-cut : (slots : List Slot) (s t : Slot) (ss : List Slot) (a b : K) → slots ≡ s ∷ ss → slot_form t ≡ slot_form s → ItemAnswered s t a b false
      → EachAnswered sink item areas slots (t ∷ ss) a b false
  answered-cut slots s t ss a b are form first = rw are (record {
    rows_are = tt;
    stay = ap (λ (r : Row). r ∷ designs (map served_of ss)) first.row_stays;
    named = λ all. All-cons IsNamed t ss (named-row s t first.row_stays form (all 0 s (omega arith))) (λ k d less. all (suc k) d (omega arith));
    writes = sink_cut sink (item_lines item areas (served_of s).row (served_of s).state) (rows_lines item areas (map served_of ss)) a b first.writes;
  })
