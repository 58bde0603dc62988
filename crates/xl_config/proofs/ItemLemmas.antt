-- Toml's items and members beside their lists.
use Rattle.xl_config.proofs.Common.{◌&&◌, ◌||◌, ◌∷◌, ◌≡◌, [], all_tables, ap, as_table, Bool, bytes_eq, count_items, Global, is_some, items_view, length, List, list_all, list_any, map, members_view, names_of, only_known, refl, row_of, String, string_bytes, suc, view, ℕ}
use Rattle.std.specs.Map.{keys_of}
use Rattle.toml.specs.declared.value.Value.{Value}
use Rattle.xl_model.specs.declared.row.Row.{Row as RowFields}

pub count_view : (vs : List Value) → count_items (items_view vs) ≡ length vs
count_view [] = refl
count_view (v ∷ vs) = ap suc (count_view vs)

pub known_view : (known : List ℕ → Bool) (es : List (String Global × Value)) → list_all (λ k. known (string_bytes k)) (keys_of es) ≡ only_known known (members_view es)
known_view known [] = refl
known_view known (e ∷ es) = ap (λ b. known (string_bytes e.0) && b) (known_view known es)

pub tables_view : (vs : List Value) → list_all (λ v. is_some (as_table (view v))) vs ≡ all_tables (items_view vs)
tables_view [] = refl
tables_view (v ∷ vs) = ap (λ b. is_some (as_table (view v)) && b) (tables_view vs)

pub names_view : (name : List ℕ) (rows : List RowFields) → list_any (λ r. bytes_eq name r.name.bytes) rows ≡ list_any (bytes_eq name) (names_of (map row_of rows))
names_view name [] = refl
names_view name (r ∷ rs) = ap (λ b. bytes_eq name r.name.bytes || b) (names_view name rs)
