-- The names that most proofs here and above cite, passed on from one place. Declares nothing.
pub use Rattle.std.proofs.Common.{◌≡◌, ◌≢◌, ◌+◌, ◌*◌, ◌/◌, ◌^◌, ◌<◌, ◌≤◌, ◌∙◌, ℕ, sym, ap, subst, arith, bit_xor, List, length, inl, inr}
pub use Rattle.std.proofs.Common.{◌-◌, ◌%◌, ◌∷◌, zero, suc, Bool, true, false, Some, None, Option, [], length-set, get_or, replicate, refl}
pub use Rattle.std.proofs.Common.{leb, ltb, if◌then◌else◌, ◌&&◌, ◌==◌, le-leb, lt-ltb, le-ltb, min, ◌⊎◌, set, get_or-set_same}
pub use Rattle.std.proofs.Common.{get_or-set_other, take, drop, drop-drop, take-take, IsSome, ◌++◌, ⊎_elim, pow_pos, length-append, take_at}
pub use Rattle.std.proofs.Common.{cond, length-drop, length-take, get_or-drop, drop-cons, append_assoc, take_all, zero-add}
pub use Rattle.std.proofs.Common.{take-append-drop, drop-set-lt, map, get_or-take, slice_get, add-zero, position, IfSome, set-set, not}
pub use Rattle.std.proofs.Common.{nat_le, max, MatchOption, ltb-true, leb-true, rules, All}
pub use Rattle.std.proofs.lemmas.Bool.{cases_lt, lt-leb, cases_eq, cases_Bool, and_parts}
pub use Rattle.std.proofs.lemmas.Bool.Decides.{leb_tells}
pub use Rattle.std.proofs.lemmas.Grind.{common_steps, div_ceil_times}
pub use Rattle.std.proofs.lemmas.List.{length-replicate, drop-take, get_or_append_left, get_or_past, drop-set-add, take-set-le, length-map}
pub use Rattle.std.proofs.lemmas.List.{drop-append-le, set-get_or, get_or-replicate}
pub use Rattle.std.proofs.lemmas.List.Edits.{paste_more}
pub use Rattle.std.proofs.lemmas.List.Folds.{sum_by-replicate}
pub use Rattle.std.proofs.lemmas.List.FromFn.{length-map-range_with_len, get_or-map-range_with_len}
pub use Rattle.std.proofs.lemmas.List.Quantifiers.{position-Some}
pub use Rattle.std.proofs.lemmas.List.Sums.{sum_by-append, sum_by-take-drop, sum_by-cons, count_by-le-length, sum_by-set}
pub use Rattle.std.proofs.lemmas.Nat.{mul-le, div-mul-add, row_fits, mod-mul-add}
pub use Rattle.std.proofs.lemmas.Option.{slice_get-get_or, slice_get_within, get_or_from_slice_get, slice_get_read}
pub use Rattle.std.specs.Int.{div_ceil}
pub use Rattle.std.specs.List.{sum_by, position_or_len}
pub use lib.Seq.{paste}
pub use Rattle.bit_sets.specs.Bits.{is_between, has, HasNoneBelow, HasNone, IsLowest}
pub use Rattle.heap_model.specs.Heap.{Stored, fields, with_field}
pub use Rattle.heap_words.specs.Configs.{max_words}
pub use Rattle.heap_words.specs.Contents.{put, counts_of, field_count, pointer_count, object_size}
unfoldable pub use Rattle.heap_words.specs.Headers.{header_of}
pub use Rattle.heap_words.specs.Headers.{header_word, pointer_of, pointer_word}
pub use Rattle.heap_words.specs.Memory.{Memory}
pub use Rattle.heap_words.specs.declared.addr.Addr.{Addr}
pub use Rattle.heap_words.specs.declared.header.Header.{Header}
pub use Rattle.regions.specs.FirstTiles.{Entries, AreEntries, AreEntriesPut, HasCard, LeadsTo, IsCutOff, IsOwn, IsPut}
pub use Rattle.regions.specs.Rows.{table_of, IsTable, IsRegionTable, sizes_in, AreTilesWritten, AreUsedBelow, free_row_count, left_by}
pub use Rattle.regions.specs.Rows.{region_by, regions_of, IsRow, IsRestRow, AreRows, free_row, table_by, first_stored}
pub use Rattle.regions.specs.Rows.{IsObjectHeader, kind_is_free, run_row, run_rows, region_of, stored_by, IsTableBy, put_remainder}
pub use Rattle.regions.specs.Rows.{header_target}
pub use Rattle.regions.specs.Shaped.{IsShaped, IsLater, AreBare}
pub use Rattle.regions.specs.Shapes.{tile_shape, size_of_shape, shape_by}
unfoldable pub use Rattle.regions.specs.Table.{nth_region, tile_in, object_at, pointers_at, weaks_at, fields_at, values_at, set_pointer}
unfoldable pub use Rattle.regions.specs.Table.{set_weak, set_field, set_value, replace_tile, push_tile, region_at, released, kind_of}
unfoldable pub use Rattle.regions.specs.Table.{used_of, free_table, object_words, put_object}
pub use Rattle.regions.specs.Table.{Table, top_of, Region, Free, Ordinary, First, Rest, region_tile, new_object, remainder, is_free}
pub use Rattle.regions.specs.Table.{first_free, taken, IsOrdinary, with_regions, run_regions, first_run, run_length, EachForwarded}
pub use Rattle.regions.specs.Table.{IsReleasable, region_kind, region_used, object_values, tile_object, HasNoForwarded, EachForwardedIn}
pub use Rattle.regions.specs.Table.{is_rest, front_count, with_region, without_run, released_as, HasObject, rests, with_object}
pub use Rattle.regions.specs.Table.{object_pointers, object_weaks, stored_size, moved_to, region_with_tile, region_replaced, HasTargets}
pub use Rattle.regions.specs.Table.{free_count, behind_one, with_run}
pub use Rattle.regions.specs.Tiles.{Tile, Object, Filler, Forwarded, tile_size, tile_at, total_size, stored_of, size_by, tiles, IsTiled}
pub use Rattle.regions.specs.Tiles.{replace, tile_by}
unfoldable pub use Rattle.regions.specs.Walks.{tiles_of}
pub use Rattle.regions.specs.Walks.{IsHolder, placed, walk_rest, IsCut, IsRunStart, AllPositive, IsWalk, region_tiles, tiles_from}
pub use Rattle.regions.specs.Walks.{AreFitting, IsNextTile}
pub use Rattle.regions.specs.WeakStarts.{Starts, AreStarts, HasWeaks, start_added, forgotten, with_pairs, AreRegions}
pub use Rattle.regions.specs.declared.row.Kind.{Kind}
pub use Rattle.regions.specs.declared.row.Row.{Row}
pub use Rattle.regions.specs.declared.row.Shape.{Shape}
