-- Items served in parts: what is served and written are those of the parts one after another. For
-- the loops that serve, and their laws.
use Rattle.xl_model_lemmas.proofs.Common.{◌++◌, ◌∙◌, ◌∷◌, ◌≡◌, [], ap, append_assoc, Bool, false, List, refl, sym, ℕ}
use Rattle.std.proofs.lemmas.List.{append-nil}
use Rattle.xl_model.specs.Scenes.{lines_where, Live, live_after, lives_after, printed_by, Scene, scene_after, scenes_after, unprinted}
use Rattle.xl_model.specs.declared.script.Item.{Item}

-- one list of items after another
pub lives-append : (answers : Bool) (xs ys : List Item) (l : Live) → lives_after answers (xs ++ ys) l ≡ lives_after answers ys (lives_after answers xs l)
lives-append answers [] ys l = refl
lives-append answers (x ∷ xs) ys l = lives-append answers xs ys (live_after answers x l)

-- the text only grows, and what is served does not depend on it
abbrev pub beyond : List ℕ → Live → Live
beyond text l = record l { printed = text ++ l.printed }

pub lives-beyond : (answers : Bool) (xs : List Item) (text : List ℕ) (l : Live) → lives_after answers xs (beyond text l) ≡ beyond text (lives_after answers xs l)
lives-beyond answers [] text l = refl
lives-beyond answers (x ∷ xs) text l =
    ap (λ (t : List ℕ). lives_after answers xs (record { scene = scene_after x l.scene; printed = t })) (append_assoc text l.printed (lines_where answers x l.scene))
    ∙ lives-beyond answers xs text (live_after answers x l)

pub lives-printed : (answers : Bool) (xs : List Item) (l : Live) → lives_after answers xs l ≡ beyond l.printed (lives_after answers xs (unprinted l.scene))
lives-printed answers xs l =
    ap (λ (t : List ℕ). lives_after answers xs (record { scene = l.scene; printed = t })) (sym (append-nil l.printed)) ∙ lives-beyond answers xs l.printed (unprinted l.scene)

-- what is served does not depend on whether lines are written
same-scene : (a b : Bool) (xs : List Item) (l m : Live) → l.scene ≡ m.scene → (lives_after a xs l).scene ≡ (lives_after b xs m).scene
same-scene a b [] l m e = e
same-scene a b (x ∷ xs) l m e = same-scene a b xs (live_after a x l) (live_after b x m) (ap (scene_after x) e)

pub scene-is : (answers : Bool) (xs : List Item) (l : Live) → (lives_after answers xs l).scene ≡ scenes_after xs l.scene
scene-is answers xs l = same-scene answers false xs l (unprinted l.scene) refl

pub scene-append : (xs ys : List Item) (s : Scene) → scenes_after (xs ++ ys) s ≡ scenes_after ys (scenes_after xs s)
scene-append xs ys s = ap (λ (l : Live). l.scene) (lives-append false xs ys (unprinted s)) ∙ scene-is false ys (lives_after false xs (unprinted s))

pub printed-append : (answers : Bool) (xs ys : List Item) (s : Scene) → printed_by answers (xs ++ ys) s ≡ printed_by answers xs s ++ printed_by answers ys (scenes_after xs s)
printed-append answers xs ys s =
    ap (λ (l : Live). l.printed) (lives-append answers xs ys (unprinted s) ∙ lives-printed answers ys (lives_after answers xs (unprinted s)))
    ∙ ap (λ t. printed_by answers xs s ++ printed_by answers ys t) (scene-is answers xs (unprinted s))
