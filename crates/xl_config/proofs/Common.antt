-- The names that this crate's proofs import from elsewhere, passed on from one place. Declares nothing.
pub use Rattle.std.proofs.Common.{if◌then◌else◌, ◌&&◌, ◌*◌, ◌++◌, ◌+◌, ◌-◌, ◌<◌, ◌||◌, ◌∙◌, ◌∷◌, ◌≡◌, ◌≤◌, [], ap, arith, Bool, codes, drop, Err, false, Global, length, length-append, List, map, nat_le, None, Ok, Option, pos, refl, set, Some, String, string_bytes, subst, suc, sym, true, zero, ℕ, ℤ}
pub use Rattle.std.specs.List.{list_all, list_any}
pub use Rattle.std.specs.Prelude.{◌==◌, All, IfOk, is_some, IsUtf8, Result}
pub use Rattle.std.specs.Str.{bytes_eq}
pub use Rattle.toml.specs.Data.{as_integer, as_table, Data, get_member, item, Items, Members, no_items}
pub use Rattle.toml.specs.View.{array_view, items_view, members_view, table_view, view}
pub use Rattle.xl_model.specs.Rows.{is_array, is_name_byte, is_table, is_width, is_within, IsRow, levels_rise, levels_rise_from, none_clash, Row, row_of}
pub use Rattle.xl_config.specs.Arrays.{agree, arrays_by, arrays_from, arrays_in, is_array_key, only_known, order_named, order_of, orders_from, orders_in, serves_in, width_in, with_order, without_orders}
unfoldable pub use Rattle.xl_config.specs.Arrays.{array_in}
pub use Rattle.xl_config.specs.Config.{keyed, parsed}
unfoldable pub use Rattle.xl_config.specs.Config.{document_of, is_utf8}
pub use Rattle.xl_config.specs.Keys.{◌>>=◌, array_of, bad, between, caches_by, caches_in, checked, count_items, found, Gives, is_name, kind_in, mode_in, name_in, needed, number_in, number_of, purge_in, range_tlb_by, table_of, text_of, width_by, width_of, widths_from}
pub use Rattle.xl_config.specs.Rows.{all_tables, element_in, is_top_key, names_of, rows_from}
unfoldable pub use Rattle.xl_config.specs.Rows.{row_in}
pub use Rattle.xl_config.specs.Tables.{is_known, table_in}
unfoldable pub use Rattle.xl_config.specs.Tables.{clustered_in, cuckoo_in, hashed_in, radix_in, range_in}
