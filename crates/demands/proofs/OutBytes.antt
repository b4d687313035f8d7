-- What encode and decode write is bytes, whatever they answer. Assumes nothing.
use Prim.Native.Nat.{ℕ, zero, suc, ◌<◌, ◌≤◌}
use mathlib.Core.Path.{◌≡◌, refl, sym, subst}
use mathlib.Core.Bool.{Bool, false}
use mathlib.Core.List.{List, [], ◌∷◌, ◌++◌, map}
use native.Mathlib.Nat.{pow-le-pow_right}
use native.Mathlib.Omega.{arith}
use lib.Dec.{eqb}
use lib.ListN.{length, get_or, take, drop, length-take}
use Rattle.format.specs.Check.{Check}
use Rattle.std.specs.declared.result.Result.TheVariants.{Ok, Err}
use Rattle.format.specs.declared.Column.{Column}
use Rattle.format.specs.Limits.{max_rows, max_slot}
use Rattle.format.specs.Lists.{Bytes, ends_from, joined, low_bytes}
use Rattle.format.specs.Kinds.{Shape, fixed, variable, Slot, column_shape}
use Rattle.format.specs.Fits.{Fits, RowFits, SheetFits}
use Rattle.format.specs.Described.{ColumnList, columns}
use Rattle.format.specs.Row.{row}
use Rattle.format.specs.Sheet.{Layout, bits, ended, wide, layout, packed, sheet_slots, turned}
use Rattle.format.specs.Cleared.{byte_of, pack, cleared_sheet}
use Rattle.format.specs.Entries.{written, sheet_rows, encode_check, encode_rows, cut_rows, rows_slots, decoded_sheet, decode_check, decode_sheet}
use Rattle.bits.proofs.Flags.{byte_small}
use Rattle.basics.proofs.Bytes.{bytes_append, bytes_drop}
use Rattle.basics.proofs.LowBytes.{bytes_low_bytes}
use Rattle.laws.proofs.Fields.{bytes_row}
use Rattle.laws.proofs.Sheets.{sheet_fits}
use Rattle.laws.proofs.Accept.{encoded}
use Rattle.demands.specs.Raw.{Raw, RawColumn, standing, raw_column, raw_sheet, AllRaw, RawFits}
use Rattle.demands.proofs.Cleared.{cleared_raws, cleared_raw_lem, raws_fit}
use Rattle.demands.proofs.Turning.{rows_fit}
use Rattle.demands.proofs.Accept.{decoded}
use Rattle.demands.proofs.RowsBack.{read_fits}
use Rattle.basics.proofs.Lists.{Every}

bytes_joined : (xs : List (List ℕ)) → Every Bytes xs → Bytes (joined xs)
bytes_joined [] h = tt
bytes_joined (x ∷ xs) h = bytes_append x (joined xs) h.0 (bytes_joined xs h.1)

-- ---- the sheet of raw columns, and so the cleared sheet
eight_flags : (fs : List Bool) → byte_of (take 8 fs) < 256
eight_flags fs =
    let few : length (take 8 fs) ≤ 8 = omega (arith, length-take 8 fs) in
    omega (arith, byte_small (take 8 fs), pow-le-pow_right {n = 2} (omega arith) few)

pub bytes_pack : (m : ℕ) (fs : List Bool) → Bytes (pack m fs)
bytes_pack zero fs = tt
bytes_pack (suc m) fs = (eight_flags fs, bytes_pack m (drop 8 fs))

all_low : (es : List ℕ) → Every Bytes (map (low_bytes 4) es)
all_low [] = tt
all_low (e ∷ es) = (bytes_low_bytes 4 e, all_low es)

-- whatever its slots hold
standing_bytes : (ly : Layout) (n : ℕ) (a : List ℕ) (xs : List (List ℕ)) → Bytes a → Every Bytes xs → Bytes (standing ly n a xs)
standing_bytes bits n a xs b h = bytes_pack (packed n) (map (λ x. eqb (get_or x 0 0) 1) xs)
standing_bytes (wide w) n a xs b h = bytes_joined xs h
standing_bytes ended n a xs b h =
    bytes_append (joined (map (low_bytes 4) (ends_from (length a) xs))) (a ++ joined xs)
    (bytes_joined (map (low_bytes 4) (ends_from (length a) xs)) (all_low (ends_from (length a) xs)))
    (bytes_append a (joined xs) b (bytes_joined xs h))

fits_bytes : (sh : Shape) (x : List ℕ) → Fits max_slot sh false x → Bytes x
fits_bytes (fixed k) x h = h.0
fits_bytes variable x h = h.0

all_bytes : (sh : Shape) (rs : List Raw) → AllRaw sh rs → Every Bytes (map (λ r. r.bytes) rs)
all_bytes sh [] h = tt
all_bytes sh (r ∷ rs) h = (fits_bytes sh r.bytes h.0, all_bytes sh rs h.1)

raw_bytes : (n : ℕ) (cols : List Column) (cs : List RawColumn) → RawFits n cols cs → Bytes (raw_sheet n cols cs)
raw_bytes n [] [] h = tt
raw_bytes n [] (c ∷ cs) h = absurd h
raw_bytes n (col ∷ cols) [] h = absurd h
raw_bytes n (col ∷ cols) (c ∷ cs) h =
    let flags : List Bool = map (λ r. r.valid) c.slots in
    let xs : List (List ℕ) = map (λ r. r.bytes) c.slots in
    bytes_append (raw_column (layout col) n c) (raw_sheet n cols cs)
    (bytes_append (pack (packed n) flags) (standing (layout col) n c.before xs) (bytes_pack (packed n) flags)
    (standing_bytes (layout col) n c.before xs h.0.below (all_bytes (column_shape col) c.slots h.0.all)))
    (raw_bytes n cols cs h.1)

cleared_bytes : (n : ℕ) (cols : List Column) (sss : List (List Slot)) → n ≤ max_rows → SheetFits n cols sss → Bytes (cleared_sheet n cols sss)
cleared_bytes n cols sss few h = subst Bytes (sym (cleared_raw_lem n cols sss)) (raw_bytes n cols (cleared_raws cols sss) (raws_fit n cols sss few h))

-- ---- the lent buffers at exit
written_bytes : (m : Check) (new old : List ℕ) → (m ≡ Ok tt → Bytes new) → Bytes old → Bytes (written m new old)
written_bytes (Ok tt) new old h b = bytes_append new (drop (length new) old) (h refl) (bytes_drop (length new) old b)
written_bytes (Err r) new old h b = b

rows_bytes : (cols : List Column) (yss : List (List Slot)) → Every (RowFits cols) yss → Every Bytes (map (row cols) yss)
rows_bytes cols [] h = tt
rows_bytes cols (ys ∷ yss) h = (bytes_row cols ys h.0, rows_bytes cols yss h.1)

pub encode_bytes : (list : ColumnList) (n : ℕ) (sheet rows : List ℕ) (offset_room : ℕ) → Bytes sheet → Bytes rows
    → Bytes (encode_rows list n sheet rows offset_room)
unfolding encode_rows
encode_bytes list n sheet rows offset_room b old =
    written_bytes (encode_check list n sheet (length rows) offset_room) (joined (sheet_rows n cols sheet)) rows new old
  where
    cols : List Column
    cols = columns list

    new : encode_check list n sheet (length rows) offset_room ≡ Ok tt → Bytes (joined (sheet_rows n cols sheet))
    new e =
        let fits = sheet_fits n cols sheet b (encoded list n sheet (length rows) offset_room e).1.passes in
        bytes_joined (sheet_rows n cols sheet) (rows_bytes cols (turned n (sheet_slots n cols sheet)) (rows_fit n cols (sheet_slots n cols sheet) fits))

pub decode_bytes : (list : ColumnList) (n : ℕ) (bytes offsets sheet : List ℕ) → Bytes bytes → Bytes sheet → Bytes (decode_sheet list n bytes offsets sheet)
unfolding decode_sheet
decode_bytes list n bytes offsets sheet b old =
    written_bytes (decode_check list n bytes offsets (length sheet)) (decoded_sheet n (columns list) (cut_rows n bytes offsets)) sheet new old
  where
    new : decode_check list n bytes offsets (length sheet) ≡ Ok tt → Bytes (decoded_sheet n (columns list) (cut_rows n bytes offsets))
    new e =
        cleared_bytes n (columns list) (rows_slots (columns list) (cut_rows n bytes offsets))
        (decoded list n bytes offsets (length sheet) e).1.few
        (read_fits (columns list) n bytes offsets b (decoded list n bytes offsets (length sheet) e).1)
