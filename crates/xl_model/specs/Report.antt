-- The report: the lines written while the items are served, then the rows, then the images.
use Rattle.std.specs.Prelude.{ℕ, Bool, true, false, List, [], ◌∷◌, ◌++◌}
use Rattle.xl_model.specs.declared.leaf.Leaf.{Leaf}
use Rattle.xl_model.specs.declared.script.Item.{Item}
use Rattle.xl_model.specs.Rows.{Row}
use Rattle.xl_model.specs.Shapes.{Shape, Radix, Chained, Cuckoo, Runs}
use Rattle.xl_model.specs.Image.{Word, image}
use Rattle.xl_model.specs.Lines.{row_line, image_line}
use Rattle.xl_model.specs.Scenes.{Served, Scene, Live, lives_after, opening_scene, unprinted}

-- What a report is asked for beside the rows: a line for each access and command, and the words of
-- each radix table.
pub record Flags : Type 0 where
  pub answers : Bool
  pub images : Bool

-- The line of each row.
abbrev pub row_lines : List Served → List ℕ
row_lines [] = []
row_lines (r ∷ rows) = row_line r.row.name r.state.counts ++ row_lines rows

-- A line for each of these words of a row.
abbrev pub word_lines : List ℕ → List Word → List ℕ
word_lines name [] = []
word_lines name (w ∷ words) = image_line name w ++ word_lines name words

-- The image of a row; only a radix table has one.
abbrev pub image_lines : List ℕ → List Leaf → Shape → List ℕ
image_lines name leaves (Radix levels spaces nodes) = word_lines name (image leaves nodes)
image_lines name leaves (Chained group buckets entries tags) = []
image_lines name leaves (Cuckoo rules ways) = []
image_lines name leaves (Runs ranges) = []

-- The images of all rows, row by row.
abbrev pub images_lines : List Served → List ℕ
images_lines [] = []
images_lines (r ∷ rows) =
    image_lines r.row.name r.state.table.leaves r.state.table.shape ++ images_lines rows

-- The images where they are asked for.
abbrev pub images_where : Bool → List Served → List ℕ
images_where true rows = images_lines rows
images_where false rows = []

-- The end of a report: the rows, then the images.
unfoldable pub tail : Flags → Scene → List ℕ
tail flags s = row_lines s.rows ++ images_where flags.images s.rows

-- The lines so far, and the end of the report after them.
abbrev pub reported : Flags → Live → List ℕ
reported flags l = l.printed ++ tail flags l.scene

-- The report of some rows over some items.
unfoldable pub report : Flags → List Row → List Item → List ℕ
report flags rows items = reported flags (lives_after flags.answers items (unprinted (opening_scene rows)))
