-- Edits of a text that is drawn from one view.
use Rattle.std.proofs.Common.{◌≡◌, ◌≤◌, ◌++◌, ◌∷◌, [], ℕ, Ok, Result, IfOk, List, map, length, refl, sym, ap, subst, ◌∙◌, arith}
use Rattle.std.proofs.lemmas.List.{length-map, map-append}
use Rattle.bg_types.specs.declared.class.Base.{Base}
use Rattle.bg_types.specs.declared.fault.Memory.{Memory}
use Rattle.unicode_tables.specs.Tables.{TableValues}
use Rattle.paragraphs.specs.Paragraphs.{Paragraph, paragraphs}
use Rattle.cell_grid.specs.Grids.{DrawnGrid, grid_of}
use Rattle.view_cache.specs.Keys.{ParagraphKey, paragraph_key}
use Rattle.view_cache.specs.Uses.{all_used, laid_anew}
use Rattle.view_cache.specs.Drawings.{KeptView, IsDrawing, uses_of}
use Rattle.view_cache.specs.Laws.{Edit, IsEdited, Replaces, edited, paragraph_texts}
use Rattle.view_cache.proofs.Uses.{edit-laid}

-- the tables stay those of the first view
tables-edited : (first view : KeptView) (text last : List ℕ) (edits : List Edit) → IsEdited first text edits view last → view.tables ≡ first.tables
tables-edited first view text last [] h = sym (ap (λ v. v.tables) h.0)
tables-edited first view text last (e ∷ edits) (width, base, answer, between, drawing, later) = tables-edited between view (edited e text) last edits later ∙ drawing.tables

pub drawn-edited : (first view after : KeptView) (text last : List ℕ) (edits : List Edit) → IsEdited first text edits view last
    → (width : ℕ) (base : Base) (answer : Result DrawnGrid Memory) → IsDrawing view width base last answer after
    → IfOk answer (λ grid. grid ≡ grid_of first.tables width base last)
drawn-edited first view after text last edits h width base answer drawing =
    subst (λ tables. IfOk answer (λ grid. grid ≡ grid_of tables width base last)) (tables-edited first view text last edits h) drawing.grid

-- ---- what an edit costs

module _ (width : ℕ) (base : Base) where
  keys_at : List (List ℕ) → List ParagraphKey
  keys_at texts = map (λ (t : List ℕ). paragraph_key t width base) texts

  keys-texts : (ps : List Paragraph) → map (λ (p : Paragraph). paragraph_key p.text width base) ps ≡ keys_at (map (λ (p : Paragraph). p.text) ps)
  unfolding keys_at
  keys-texts [] = refl
  keys-texts (p ∷ ps) = ap (λ l. paragraph_key p.text width base ∷ l) (keys-texts ps)

  keys-parts : (a b d : List (List ℕ)) → keys_at (a ++ (b ++ d)) ≡ keys_at a ++ (keys_at b ++ keys_at d)
  unfolding keys_at
  keys-parts a b d =
      map-append (λ (t : List ℕ). paragraph_key t width base) a (b ++ d)
      ∙ ap (λ l. map (λ (t : List ℕ). paragraph_key t width base) a ++ l) (map-append (λ (t : List ℕ). paragraph_key t width base) b d)

  length-keys : (texts : List (List ℕ)) → length (keys_at texts) ≡ length texts
  unfolding keys_at
  length-keys texts = length-map texts (λ (t : List ℕ). paragraph_key t width base)

  replaced-laid : (room : ℕ) (tables : TableValues) (text later : List ℕ) (old new : List (List ℕ)) (kept : List ParagraphKey) → Replaces tables text old later new
      → length (paragraph_texts tables text) ≤ room → length (paragraph_texts tables later) ≤ room
      → laid_anew room (uses_of tables width base later) (all_used room (uses_of tables width base text) kept) ≤ length new
  replaced-laid room tables text later old new kept r was is =
      let uses_was : uses_of tables width base text ≡ keys_at r.before ++ (keys_at old ++ keys_at r.after) =
      keys-texts (paragraphs tables text) ∙ ap keys_at r.was ∙ keys-parts r.before old r.after in
      let uses_is : uses_of tables width base later ≡ keys_at r.before ++ (keys_at new ++ keys_at r.after) =
      keys-texts (paragraphs tables later) ∙ ap keys_at r.is ∙ keys-parts r.before new r.after in
      let n : length (keys_at r.before ++ (keys_at old ++ keys_at r.after)) ≡ length (paragraph_texts tables text) =
      ap length (sym (keys-parts r.before old r.after) ∙ ap keys_at (sym r.was)) ∙ length-keys (paragraph_texts tables text) in
      let m : length (keys_at r.before ++ (keys_at new ++ keys_at r.after)) ≡ length (paragraph_texts tables later) =
      ap length (sym (keys-parts r.before new r.after) ∙ ap keys_at (sym r.is)) ∙ length-keys (paragraph_texts tables later) in
      let most = edit-laid room (keys_at r.before) (keys_at old) (keys_at new) (keys_at r.after) kept (omega arith) (omega arith) in
      let same : laid_anew room (uses_of tables width base later) (all_used room (uses_of tables width base text) kept)
      ≡ laid_anew room (keys_at r.before ++ (keys_at new ++ keys_at r.after)) (all_used room (keys_at r.before ++ (keys_at old ++ keys_at r.after)) kept) =
      ap (λ u. laid_anew room u (all_used room (uses_of tables width base text) kept)) uses_is
      ∙ ap (λ u. laid_anew room (keys_at r.before ++ (keys_at new ++ keys_at r.after)) (all_used room u kept)) uses_was in
      let count = length-keys new in
      omega arith

pub edits-cost : (first view after : KeptView) (text later : List ℕ) (width : ℕ) (base : Base) (old new : List (List ℕ)) (drawn again : DrawnGrid)
    → IsDrawing first width base text (Ok drawn) view → IsDrawing view width base later (Ok again) after
    → Replaces first.tables text old later new → length (paragraph_texts first.tables text) ≤ first.room → length (paragraph_texts first.tables later) ≤ first.room
    → after.laid ≤ length new
edits-cost first view after text later width base old new drawn again d e r was is =
    let counted : after.laid ≡ laid_anew first.room (uses_of first.tables width base later) (all_used first.room (uses_of first.tables width base text) first.keys) =
    e.laid
    ∙ ap (λ n. laid_anew n (uses_of view.tables width base later) view.keys) d.room
    ∙ ap (λ t. laid_anew first.room (uses_of t width base later) view.keys) d.tables
    ∙ ap (laid_anew first.room (uses_of first.tables width base later)) d.keys in
    let most = replaced-laid width base first.room first.tables text later old new first.keys r was is in
    omega arith
