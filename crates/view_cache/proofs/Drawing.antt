-- A draw, paragraph by paragraph.
use Rattle.std.proofs.Common.{◌≡◌, ◌≤◌, ◌<◌, ◌++◌, ◌+◌, ◌∷◌, [], ℕ, zero, suc, Bool, true, false, not, if◌then◌else◌, List, Result, Ok, Err, length, take, get_or, flat_map, refl, sym, ap, subst, ◌∙◌, append_assoc, arith}
use Rattle.std.proofs.lemmas.List.{map-append}
use Rattle.std.specs.Str.{IsUtf8}
use Rattle.bg_types.specs.declared.class.Base.{Base}
use Rattle.bg_types.specs.declared.fault.Memory.{Memory}
use Rattle.paragraphs.specs.Paragraphs.{Paragraph, paragraphs}
use Rattle.cell_grid.specs.Rows.{DrawnRow}
use Rattle.unicode_tables.specs.Tables.{TableValues}
use Rattle.cell_grid.specs.Grids.{DrawnGrid, paragraph_rows, grid_rows, grid_of, IsDrawn}
use Rattle.cell_grid.specs.Print.{printed_paragraph, shown}
use Rattle.cell_grid.proofs.Interface.{take-next, flat_map-take_next}
use Rattle.view_cache.specs.Keys.{ParagraphKey, paragraph_key}
use Rattle.view_cache.specs.Uses.{is_kept, all_used, laid_anew}
use Rattle.view_cache.specs.Drawings.{KeptView, paragraph_keys, uses_of, IsDrawing, IsPrinting}
use Rattle.view_cache.proofs.Kept.{view_used}
use Rattle.view_cache.proofs.Uses.{all_used-append, laid_anew-append}

-- what a use adds to the count
added : (kept : Bool) → ℕ
added kept = if kept then 0 else 1

added-then : (kept : Bool) → true ≡ not kept → added kept ≡ 1
unfolding added
added-then true h = cc
added-then false h = refl

added-else : (kept : Bool) → false ≡ not kept → added kept ≡ 0
unfolding added
added-else true h = refl
added-else false h = cc

pub most-then : (laid now i : ℕ) → laid ≤ i → now ≡ laid + 1 → now ≤ i + 1
most-then laid now i most more = omega arith

pub most-else : (laid now i : ℕ) → laid ≤ i → now ≡ laid → now ≤ i + 1
most-else laid now i most same = omega arith

module _ (width : ℕ) (base : Base) where
  keys-take : (n : ℕ) (ps : List Paragraph) → paragraph_keys width base (take n ps) ≡ take n (paragraph_keys width base ps)
  keys-take zero ps = refl
  keys-take (suc n) [] = refl
  keys-take (suc n) (p ∷ ps) = ap (λ l. paragraph_key p.text width base ∷ l) (keys-take n ps)

  module _ (before : KeptView) where
    -- the view after uses of these keys
    abbrev pub after_keys : List ParagraphKey → KeptView
    after_keys keys = record before { keys = all_used before.room keys before.keys }

    -- the view after these paragraphs
    abbrev pub so_far : List Paragraph → KeptView
    so_far ps = after_keys (paragraph_keys width base ps)

    -- how many of these were laid out
    abbrev pub laid_so_far : List Paragraph → ℕ
    laid_so_far ps = laid_anew before.room (paragraph_keys width base ps) before.keys

    -- the rows of these
    abbrev pub rows_so_far : List Paragraph → List DrawnRow
    rows_so_far ps = flat_map (paragraph_rows before.tables width base) ps

    -- what these print
    abbrev pub print_so_far : List Paragraph → List ℕ
    print_so_far ps = flat_map (λ (p : Paragraph). printed_paragraph before.tables width base p.text) ps

    -- the first of some paragraphs use the first of their keys
    pub so_far-begun : (n : ℕ) (items : List Paragraph) → so_far (take n items) ≡ after_keys (take n (paragraph_keys width base items))
    so_far-begun n items = ap after_keys (keys-take n items)

    module _ (items : List Paragraph) (i : ℕ) (p d : Paragraph) (lt : i < length items) (is : p ≡ get_or items i d) where
      abbrev key : ParagraphKey
      key = paragraph_key p.text width base

      next-keys : paragraph_keys width base (take (i + 1) items) ≡ paragraph_keys width base (take i items) ++ key ∷ []
      next-keys = ap (paragraph_keys width base) (take-next items i p d lt is) ∙ map-append (λ (p : Paragraph). paragraph_key p.text width base) (take i items) (p ∷ [])

      next-laid : laid_so_far (take (i + 1) items) ≡ laid_so_far (take i items) + added (is_kept key (so_far (take i items)).keys)
      unfolding added
      next-laid =
          let e = ap (λ l. laid_anew before.room l before.keys) next-keys ∙ laid_anew-append before.room (paragraph_keys width base (take i items)) (key ∷ []) before.keys in
          omega (arith, e)

      module _ (view : KeptView) (was : view ≡ so_far (take i items)) where
        -- one more paragraph is used
        pub next-view : (after : KeptView) → after ≡ view_used key view → after ≡ so_far (take (i + 1) items)
        next-view after used_now =
            used_now ∙ ap (view_used key) was
            ∙ sym (ap after_keys next-keys ∙ ap (λ ks. record before { keys = ks }) (all_used-append before.room (paragraph_keys width base (take i items)) (key ∷ []) before.keys))

        -- what is made of it follows what was made of those before
        next-joined : {X : Type 0} (made : TableValues → Paragraph → List X) (old joined new : List X) → joined ≡ old ++ flat_map (made before.tables) (take i items)
            → new ≡ joined ++ made view.tables p → new ≡ old ++ flat_map (made before.tables) (take (i + 1) items)
        next-joined made old joined new so_far_joined put =
            put ∙ ap (λ l. l ++ made view.tables p) so_far_joined
            ∙ ap (λ (v : KeptView). (old ++ flat_map (made before.tables) (take i items)) ++ made v.tables p) was
            ∙ append_assoc old (flat_map (made before.tables) (take i items)) (made before.tables p)
            ∙ ap (λ l. old ++ l) (sym (flat_map-take_next (made before.tables) items i p d lt is))

        -- its rows follow those before
        pub next-rows : (old drawn new : List DrawnRow) → drawn ≡ old ++ rows_so_far (take i items) → new ≡ drawn ++ paragraph_rows view.tables width base p
            → new ≡ old ++ rows_so_far (take (i + 1) items)
        next-rows = next-joined (λ tables. paragraph_rows tables width base)

        -- and what it prints follows what they do
        pub next-print : (old printed new : List ℕ) → printed ≡ old ++ print_so_far (take i items) → new ≡ printed ++ printed_paragraph view.tables width base p.text
            → new ≡ old ++ print_so_far (take (i + 1) items)
        next-print = next-joined (λ tables q. printed_paragraph tables width base q.text)

        -- it is counted where it was laid out
        module _ (laid now : ℕ) (counted : laid ≡ laid_so_far (take i items)) (anew : Bool) (told : anew ≡ not (is_kept key view.keys)) where
          there : anew ≡ not (is_kept key (so_far (take i items)).keys)
          there = told ∙ ap (λ (v : KeptView). not (is_kept key v.keys)) was

          pub counted-then : anew ≡ true → now ≡ laid + 1 → now ≡ laid_so_far (take (i + 1) items)
          counted-then laid_out more = let one = added-then _ (sym laid_out ∙ there) in let next = next-laid in omega arith

          pub counted-else : anew ≡ false → now ≡ laid → now ≡ laid_so_far (take (i + 1) items)
          counted-else found same = let none = added-else _ (sym found ∙ there) in let next = next-laid in omega arith

    -- after all paragraphs of a text
    used-done : (text : List ℕ) (items : List Paragraph) → items ≡ paragraphs before.tables text → (view : KeptView) → view ≡ so_far items
        → (laid : ℕ) → laid ≡ laid_so_far items → (grid : DrawnGrid) → grid ≡ grid_of before.tables width base text → IsDrawing before width base text (Ok grid) (record view { laid = laid })
    used-done text items all view is laid counted grid made = record {
      grid = made;
      tables = ap (λ v. v.tables) is;
      room = ap (λ v. v.room) is;
      hash_key = ap (λ v. v.hash_key) is;
      keys = ap (λ v. v.keys) is ∙ ap (λ ps. all_used before.room (paragraph_keys width base ps) before.keys) all;
      laid = counted ∙ ap laid_so_far all;
      begun = tt;
      uncounted = tt;
    }

    module _ (text : List ℕ) (items : List Paragraph) (all : items ≡ paragraphs before.tables text) (first drawn : List DrawnRow) (none : first ≡ []) (put : drawn ≡ first ++ rows_so_far items)
        (view : KeptView) (is : view ≡ so_far items) where
      all-drawn : drawn ≡ grid_rows before.tables width base text
      all-drawn = put ∙ ap (λ l. l ++ rows_so_far items) none ∙ ap rows_so_far all

      -- the rows are a grid's
      pub drawn-done : 2 ≤ width → width ≤ 500 → IsUtf8 text → length text ≤ 4_000_000 → IsDrawn (record { tables = view.tables; text = text; rows = drawn })
      drawn-done least most utf8 size = record {
        width = width;
        base = base;
        at_least = least;
        at_most = most;
        utf8 = utf8;
        size = size;
        rows = all-drawn ∙ ap (λ (v : KeptView). grid_rows v.tables width base text) (sym is);
      }

      pub drawing-done : (laid : ℕ) → laid ≡ laid_so_far items → (grid : DrawnGrid) → grid ≡ record { tables = view.tables; text = text; rows = drawn }
          → IsDrawing before width base text (Ok grid) (record view { laid = laid })
      drawing-done laid counted grid made =
          used-done text items all view is laid counted grid
          (made ∙ ap (λ rows. let g : DrawnGrid = record { tables = view.tables; text = text; rows = rows } in g) all-drawn
          ∙ ap (λ (v : KeptView). let g : DrawnGrid = record { tables = v.tables; text = text; rows = grid_rows before.tables width base text } in g) is)

    module _ (text : List ℕ) (items : List Paragraph) (all : items ≡ paragraphs before.tables text) (view : KeptView) (is : view ≡ so_far items) where
      -- the parts are the print
      pub printing-done : (laid : ℕ) → laid ≡ laid_so_far items → (first print : List ℕ) → first ≡ [] → print ≡ first ++ print_so_far items → shown before.tables width base text ≡ print_so_far (paragraphs before.tables text)
          → IsPrinting before width base text (Ok print) (record view { laid = laid })
      printing-done laid counted first print none put whole = record {
        drawing = used-done text items all view is laid counted (grid_of before.tables width base text) refl;
        print = put ∙ ap (λ l. l ++ print_so_far items) none ∙ ap print_so_far all ∙ sym whole;
      }

    -- after Memory
    pub drawing-begun : (text : List ℕ) (view : KeptView) (n : ℕ) (answer : Result DrawnGrid Memory) (fault : Memory) → answer ≡ Err fault
        → view ≡ after_keys (take n (uses_of before.tables width base text)) → IsDrawing before width base text answer view
    drawing-begun text view n answer fault e is = subst (λ r. IsDrawing before width base text r view) (sym e) (record {
      grid = tt;
      tables = ap (λ v. v.tables) is;
      room = ap (λ v. v.room) is;
      hash_key = ap (λ v. v.hash_key) is;
      keys = tt;
      laid = tt;
      begun = (n, ap (λ v. v.keys) is);
      uncounted = ap (λ v. v.laid) is;
    })

    pub printing-begun : (text : List ℕ) (view : KeptView) (n : ℕ) (answer : Result (List ℕ) Memory) (fault : Memory) → answer ≡ Err fault
        → view ≡ after_keys (take n (uses_of before.tables width base text)) → IsPrinting before width base text answer view
    printing-begun text view n answer fault e is =
        subst (λ r. IsPrinting before width base text r view) (sym e) (record { drawing = drawing-begun text view n (Err fault) fault refl is; print = tt })
