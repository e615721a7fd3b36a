-- What a row prints, entry by entry.
use Rattle.std.proofs.Common.{◌≡◌, false, ℕ, zero, suc, ◌+◌, ◌<◌, ◌≤◌, List, [], ◌∷◌, ◌++◌, length, take, drop, get_or, take-append-drop, slice_range, replicate, slice_get, Some, flat_map, refl, sym, ap, ◌∙◌, arith, append_assoc, append-nil, length-append}
use Rattle.std.proofs.lemmas.List.Concat.{flat_map-append, flat_map-cons}
use Rattle.std.specs.Prelude.{if◌then◌else◌}
use Rattle.unicode_tables.specs.Tables.{TableValues}
use Rattle.cell_grid.specs.declared.entry.Entry.{Entry}
use Rattle.cell_grid.specs.declared.cell.Cell.{Cell}
use Rattle.cell_grid.specs.declared.cell.Cell.TheVariants.{Blank, Head, Tail}
use Rattle.cell_grid.specs.Cells.{entry_cells, entries_cells}
use Rattle.cell_grid.specs.Print.{begins_with_tab, mirrored_text, cluster_of, entry_text, text_over, own_text, cell_text}
use Rattle.cell_grid.proofs.Lookups.{get-right}
use Rattle.cell_grid.proofs.Steps.{slice-parts, flat_map-take_next}

-- a list of pieces in two parts
pub pieces-parts : {X : Type 0} (f : X → List ℕ) (xs : List X) (n : ℕ) → flat_map f xs ≡ flat_map f (take n xs) ++ flat_map f (drop n xs)
pieces-parts f xs n = ap (flat_map f) (sym (take-append-drop n xs)) ∙ flat_map-append f (take n xs) (drop n xs)

-- pieces that are a stretch of a text, and one more
pub stretch-on : {X : Type 0} (f : X → List ℕ) (xs : List X) (n : ℕ) (x d : X) (text : List ℕ) (start mid end : ℕ) → n < length xs → x ≡ get_or xs n d
    → flat_map f (take n xs) ≡ slice_range text start mid → f x ≡ slice_range text mid end → start ≤ mid → mid ≤ end → flat_map f (take (n + 1) xs) ≡ slice_range text start end
stretch-on f xs n x d text start mid end lt is before own low high =
    flat_map-take_next f xs n x d lt is ∙ ap (λ t. t ++ f x) before ∙ ap (λ t. slice_range text start mid ++ t) own ∙ sym (slice-parts text start mid end low high)

text_over-some : (columns : ℕ) (shown : List ℕ) → 0 < columns → text_over columns shown ≡ shown
text_over-some zero shown some = absurd (omega arith)
text_over-some (suc n) shown some = refl

-- a cluster that is no tab, has columns and is shown as it stands prints its bytes
pub own-slice : (tables : TableValues) (text : List ℕ) (e : Entry) → 0 < e.columns → begins_with_tab tables (cluster_of text e) ≡ false
    → mirrored_text tables e.level (cluster_of text e) ≡ slice_range text e.span.first_byte e.span.end_byte
    → own_text tables text e ≡ slice_range text e.span.first_byte e.span.end_byte
own-slice tables text e some tab same =
    text_over-some e.columns (entry_text tables text (Some e)) some
    ∙ ap (λ b. if b then replicate e.columns 32 else mirrored_text tables e.level (cluster_of text e)) tab ∙ same

module _ (tables : TableValues) (text : List ℕ) (entries : List Entry) where
  -- a blank prints one space
  pub blanks-text : (n : ℕ) → flat_map (cell_text tables text entries) (replicate n Blank) ≡ replicate n 32
  blanks-text zero = refl
  blanks-text (suc n) = flat_map-cons (cell_text tables text entries) Blank (replicate n Blank) ∙ ap (λ l. 32 ∷ l) (blanks-text n)

  tails-text : (n number : ℕ) → flat_map (cell_text tables text entries) (replicate n (Tail number)) ≡ []
  tails-text zero number = refl
  tails-text (suc n) number = flat_map-cons (cell_text tables text entries) (Tail number) (replicate n (Tail number)) ∙ tails-text n number

  entry-text : (columns number : ℕ) (e : Entry) → slice_get entries number ≡ Some e
      → flat_map (cell_text tables text entries) (entry_cells number columns) ≡ text_over columns (entry_text tables text (Some e))
  entry-text zero number e is = refl
  entry-text (suc n) number e is =
      flat_map-cons (cell_text tables text entries) (Head number) (replicate n (Tail number))
      ∙ ap (λ l. entry_text tables text (slice_get entries number) ++ l) (tails-text n number)
      ∙ append-nil (entry_text tables text (slice_get entries number)) ∙ ap (entry_text tables text) is

module _ (tables : TableValues) (text : List ℕ) where
  -- cells of entries after others
  later-text : (front later : List Entry) → flat_map (cell_text tables text (front ++ later)) (entries_cells (length front) later) ≡ flat_map (own_text tables text) later
  later-text front [] = refl
  later-text front (e ∷ later) =
      let all = front ++ e ∷ later in
      let whole = append_assoc front (e ∷ []) later in
      let n = length-append front (e ∷ []) in
      let count : length (front ++ e ∷ []) ≡ length front + 1 = omega arith in
      let z : length front + 0 ≡ length front = omega arith in
      let here : slice_get all (length front) ≡ Some e = ap (slice_get all) (sym z) ∙ get-right front (e ∷ later) (length front) 0 refl in
      flat_map-append (cell_text tables text all) (entry_cells (length front) e.columns) (entries_cells (length front + 1) later)
      ∙ ap (λ l. l ++ flat_map (cell_text tables text all) (entries_cells (length front + 1) later)) (entry-text tables text all e.columns (length front) e here)
      ∙ ap (λ l. own_text tables text e ++ l)
      (sym (ap (λ k. flat_map (cell_text tables text all) (entries_cells k later)) count)
      ∙ sym (ap (λ es. flat_map (cell_text tables text es) (entries_cells (length (front ++ e ∷ [])) later)) whole)
      ∙ later-text (front ++ e ∷ []) later)
      ∙ sym (flat_map-cons (own_text tables text) e later)

  -- the cells of a row print blanks, its entries and blanks
  pub row-text : (entries : List Entry) (left right : ℕ)
      → flat_map (cell_text tables text entries) (replicate left Blank ++ (entries_cells 0 entries ++ replicate right Blank)) ++ 10 ∷ []
      ≡ replicate left 32 ++ (flat_map (own_text tables text) entries ++ (replicate right 32 ++ 10 ∷ []))
  row-text entries left right =
      let f : Cell → List ℕ = cell_text tables text entries in
      ap (λ l. l ++ 10 ∷ [])
      (flat_map-append f (replicate left Blank) (entries_cells 0 entries ++ replicate right Blank)
      ∙ ap (λ l. l ++ flat_map f (entries_cells 0 entries ++ replicate right Blank)) (blanks-text tables text entries left)
      ∙ ap (λ l. replicate left 32 ++ l)
      (flat_map-append f (entries_cells 0 entries) (replicate right Blank)
      ∙ ap (λ l. l ++ flat_map f (replicate right Blank)) (later-text [] entries)
      ∙ ap (λ l. flat_map (own_text tables text) entries ++ l) (blanks-text tables text entries right)))
      ∙ append_assoc (replicate left 32) (flat_map (own_text tables text) entries ++ replicate right 32) (10 ∷ [])
      ∙ ap (λ l. replicate left 32 ++ l) (append_assoc (flat_map (own_text tables text) entries) (replicate right 32) (10 ∷ []))
