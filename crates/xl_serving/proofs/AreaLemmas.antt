-- Areas that a script declares.
use Rattle.xl_serving.proofs.Common.{◌++◌, ◌∙◌, ◌∷◌, ◌≡◌, [], ap, Area, Bool, Command, Declared, false, HasServed, is_area, item_lines, List, plain, printed_by, refl, rows_after, rows_lines, Scene, scene_after, scene_of, Served, sink_same, SinkAfter, SinkMeaning, state_after, subst, sym, true, with_area, ℕ}
use Rattle.xl_model.specs.declared.script.Command.TheVariants as command

declared_rows : (area : Area) (areas : List Area) (rows : List Served) → rows_after (Declared area) areas rows ≡ rows
unfolding state_after
declared_rows area areas [] = refl
declared_rows area areas (r ∷ rows) = ap (λ (rest : List Served). r ∷ rest) (declared_rows area areas rows)

declared_lines : (area : Area) (areas : List Area) (rows : List Served) → rows_lines (Declared area) areas rows ≡ []
unfolding item_lines
declared_lines area areas [] = refl
declared_lines area areas (r ∷ rows) = declared_lines area areas rows

declared_printed : (answers : Bool) (area : Area) (s : Scene) → printed_by plain answers (Declared area ∷ []) s ≡ []
declared_printed true area s = ap (λ (text : List ℕ). text ++ []) (declared_lines area s.areas s.rows)
declared_printed false area s = refl

declared_scene : (area : Area) (s : Scene) → with_area area s ≡ scene_after (Declared area) s
unfolding scene_after
declared_scene area s = ap (λ (rows : List Served). scene_of rows (s.areas ++ area ∷ [])) (sym (declared_rows area s.areas s.rows))

-- an area is declared: no line is written, and all rows stay
pub declared : {K : Type 0} (sink : SinkMeaning K) (answers : Bool) (area : Area) (p q : Scene) (k : K) → q ≡ with_area area p → HasServed plain sink answers (Declared area ∷ []) p q k k true
declared sink answers area p q k e = record {
  state_is = e ∙ declared_scene area p;
  writes = subst (λ (text : List ℕ). SinkAfter sink text k k true) (sym (declared_printed answers area p)) (sink_same sink k);
}

-- a command that isn't a demand declares no area
pub no_area : (c : Command) → ((a : Area) → c ≡ command.Demand a → ⊥) → is_area c ≡ false
no_area (command.Map space va o perm n) h = refl
no_area (command.Unmap space va o n) h = refl
no_area (command.Protect space va o perm n) h = refl
no_area (command.Move space from to o n) h = refl
no_area (command.Space space) h = refl
no_area (command.Fence scope) h = refl
no_area (command.Demand area) h = absurd (h area refl)
no_area (command.Run n) h = refl
no_area command.RunRest h = refl
