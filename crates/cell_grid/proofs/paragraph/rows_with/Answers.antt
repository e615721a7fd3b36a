-- A row for each line.
use Rattle.std.proofs.Common.{◌≡◌, ℕ, ◌∷◌, [], List, length, map, sym, ap, subst, ◌∙◌}
use Rattle.std.proofs.lemmas.Result.{IfOk-weaker}
use Rattle.std.proofs.lemmas.Simd.{map-map}
use Rattle.std.specs.List.{All}
use Rattle.std.specs.Str.{IsUtf8}
use Rattle.bg_types.specs.declared.class.Bidi.{Bidi}
use Rattle.bg_types.specs.declared.class.Base.{Base}
use Rattle.unicode_tables.specs.Tables.{TableValues, bidi_of}
use Rattle.unicode_tables.specs.Word.{word_of}
use Rattle.unicode_tables.specs.declared.word.Word.{Word}
use Rattle.paragraphs.specs.Text.{code_points}
use Rattle.paragraphs.specs.Clusters.{cluster_sizes}
use Rattle.bidi_explicit.specs.Embedding.{paragraph_level, classes_of, embedding_at}
use Rattle.bidi_weak_neutral.specs.Levels.{levels_of, resolved_levels}
use Rattle.line_break.specs.LineClusters.{line_clusters}
use Rattle.line_break.specs.Lines.{lines}
use Rattle.line_break.specs.Opportunities.{opportunities_of}
use Rattle.cell_grid.specs.Rows.{DrawnRow, row_of, rows_of}
use Rattle.cell_grid.specs.Outline.{own_columns}
use Rattle.cell_grid.specs.Spans.{spans}
use Rattle.cell_grid.specs.Separators.{IsSeparatorAlone, separator_row}
use Rattle.cell_grid.specs.Shifting.{MayShiftRow}
use Rattle.cell_grid.proofs.Drawn.{rows-shift}
use Rattle.cell_grid.proofs.Separating.{separator-rows}
use Rattle.cell_grid.proofs.paragraph.rows_with.Goals as goal

-- the classes of points that are lent twice
points-lent : (tables : TableValues) (classes lent : List Bidi) (once twice : List ℕ) → lent ≡ classes → classes ≡ map (bidi_of tables) once → once ≡ twice
    → lent ≡ map (bidi_of tables) twice
points-lent tables classes lent once twice a b d = a ∙ b ∙ ap (map (bidi_of tables)) d

-- the classes that the words of points tell
classes-told : (tables : TableValues) (classes : List Bidi) (words lent : List Word) (points : List ℕ) → classes ≡ map (λ (w : Word). w.bidi) lent → lent ≡ words
    → words ≡ map (word_of tables) points → classes ≡ map (bidi_of tables) points
classes-told tables classes words lent points a b d = a ∙ ap (map (λ (w : Word). w.bidi)) (b ∙ d) ∙ map-map (λ (w : Word). w.bidi) (word_of tables) points

-- the levels of the points are those of the text
levels-are : (tables : TableValues) (text : List ℕ) (base : Base) (found points : List ℕ) (classes : List Bidi) (level : ℕ) → found ≡ resolved_levels tables points (embedding_at level classes)
    → points ≡ code_points text → classes ≡ map (bidi_of tables) points → level ≡ paragraph_level base (classes_of tables text) → found ≡ levels_of tables base text
levels-are tables text base found points classes level e p cs l =
    e ∙ ap (λ n. resolved_levels tables points (embedding_at n classes)) l
    ∙ ap (λ x. resolved_levels tables points (embedding_at (paragraph_level base (classes_of tables text)) x)) (cs ∙ ap (map (bidi_of tables)) p)
    ∙ ap (λ x. resolved_levels tables x (embedding_at (paragraph_level base (classes_of tables text)) (classes_of tables text))) p

-- the rows of the lines are those of the text
rows-are : (tables : TableValues) (width : ℕ) (base : Base) (text lent : List ℕ) (level : ℕ) (own : List ℕ) (found : List DrawnRow) → found ≡ map (row_of tables width level lent own) (lines tables lent width)
    → level ≡ paragraph_level base (classes_of tables text) → lent ≡ text → own ≡ levels_of tables base text → found ≡ rows_of tables width base text
rows-are tables width base text lent level own found e l t o =
    e ∙ ap (λ n. map (row_of tables width n lent own) (lines tables lent width)) l
    ∙ ap (λ x. map (row_of tables width (paragraph_level base (classes_of tables text)) x own) (lines tables x width)) t
    ∙ ap (λ x. map (row_of tables width (paragraph_level base (classes_of tables text)) text x) (lines tables text width)) o

pub returns-then-is_separator_alone-clause-rows : goal.returns-then-is_separator_alone-clause-rows
returns-then-is_separator_alone-clause-rows c =
    let t = c.args.tables.now in
    let text = c.text-text.ensures in
    let is = subst (IsSeparatorAlone t) text (c.is_separator_alone.ensures c.if-is_separator_alone.true) in
    IfOk-weaker c.separator_rows.result _ _
    (λ rows made. made
    ∙ ap (λ n. separator_row c.args.width n (length c.text-text.result.now) ∷ []) c.paragraph_level-para_level.ensures.level
    ∙ ap (λ (x : List ℕ). separator_row c.args.width (paragraph_level c.args.base (classes_of t c.args.para.now.text)) (length x) ∷ []) text
    ∙ separator-rows c.laws_below.ensures t c.args.width c.requires.at_least c.args.para.now.text (subst IsUtf8 text c.text-text.utf8) is c.args.base)
    c.separator_rows.ensures

pub returns-then-is_separator_alone-clause-may_shift : goal.returns-then-is_separator_alone-clause-may_shift
returns-then-is_separator_alone-clause-may_shift c =
    IfOk-weaker c.separator_rows.result _ _
    (λ rows made. λ bytes places fit_bytes fit_places.
    subst (All (MayShiftRow bytes places)) (sym made)
    (rows-shift c.laws_below.ensures c.args.tables.now c.args.width c.requires.at_least c.args.base c.args.para.now.text (subst IsUtf8 c.text-text.ensures c.text-text.utf8)
    bytes places fit_bytes fit_places))
    (returns-then-is_separator_alone-clause-rows c)

pub levels_into-requires-clause-classes : goal.levels_into-requires-clause-classes
levels_into-requires-clause-classes c =
    points-lent c.args.tables.now _ _ _ _ c.deref-4.ensures.value (classes-told c.args.tables.now _ _ _ _ c.in_ok-classes_into.ensures c.deref-2.ensures.value c.in_ok-words_into.ensures) (c.deref.ensures.value ∙ sym c.deref-3.ensures.value)

pub rows_in-requires-clause-text : goal.rows_in-requires-clause-text
rows_in-requires-clause-text c = c.text-text.utf8

pub rows_in-requires-clause-classes : goal.rows_in-requires-clause-classes
rows_in-requires-clause-classes c =
    c.deref-7.ensures.value ∙ classes-told c.args.tables.now _ _ _ _ c.in_ok-classes_into.ensures c.deref-2.ensures.value c.in_ok-words_into.ensures
    ∙ ap (map (bidi_of c.args.tables.now)) (c.deref.ensures.value ∙ c.in_ok-code_points_into.ensures)

pub rows_in-requires-clause-levels : goal.rows_in-requires-clause-levels
rows_in-requires-clause-levels c = ap length c.deref-8.ensures.value ∙ c.in_ok-levels_into.ensures.one_each ∙ ap length (c.deref-3.ensures.value ∙ c.in_ok-code_points_into.ensures)

pub rows_in-requires-clause-runs : goal.rows_in-requires-clause-runs
rows_in-requires-clause-runs c =
    let text = sym c.text-text.ensures in
    record {
      spans = c.in_ok-outline_into.ensures.spans ∙ ap spans text;
      sizes = c.in_ok-outline_into.ensures.sizes ∙ ap cluster_sizes text;
      columns = c.in_ok-outline_into.ensures.columns ∙ ap (own_columns c.args.tables.now) text;
    }

pub rows_in-requires-clause-opportunities : goal.rows_in-requires-clause-opportunities
rows_in-requires-clause-opportunities c =
    c.in_ok-outline_into.ensures.opportunities ∙ ap (λ (t : List ℕ). opportunities_of (line_clusters c.args.tables.now t)) (sym c.text-text.ensures)

pub returns-clause-rows : goal.returns-clause-rows
returns-clause-rows c =
    let tables = c.args.tables.now in
    let text = c.args.para.now.text in
    let level = c.paragraph_level-para_level.ensures.level in
    let own = levels-are tables text c.args.base _ _ _ _ c.in_ok-levels_into.ensures.levels (c.deref-3.ensures.value ∙ c.in_ok-code_points_into.ensures ∙ ap code_points c.text-text.ensures)
    (points-lent tables _ _ _ _ c.deref-4.ensures.value (classes-told c.args.tables.now _ _ _ _ c.in_ok-classes_into.ensures c.deref-2.ensures.value c.in_ok-words_into.ensures) (c.deref.ensures.value ∙ sym c.deref-3.ensures.value)) level in
    IfOk-weaker c.rows_in.result _ _
    (λ rows made. rows-are tables c.args.width c.args.base text c.text-text.result.now c.paragraph_level-para_level.result c.deref-8.result.now rows.items made level c.text-text.ensures (c.deref-8.ensures.value ∙ own))
    c.rows_in.ensures

pub returns-clause-may_shift : goal.returns-clause-may_shift
returns-clause-may_shift c =
    IfOk-weaker c.rows_in.result _ _
    (λ rows made. λ bytes places fit_bytes fit_places.
    subst (All (MayShiftRow bytes places)) (sym made)
    (rows-shift c.laws_below.ensures c.args.tables.now c.args.width c.requires.at_least c.args.base c.args.para.now.text (subst IsUtf8 c.text-text.ensures c.text-text.utf8)
    bytes places fit_bytes fit_places))
    (returns-clause-rows c)
