-- A paragraph of plain classes at level 0 has level 0 throughout, any other the levels of its sequences.
use Rattle.std.proofs.Common.{arith, ℕ, ◌-◌, ◌≤◌, ◌≡◌, ◌∙◌, ap, ap₂, sym, List, [], ◌++◌, length, take, replicate}
use Rattle.std.specs.List.{All}
use Rattle.std.proofs.lemmas.List.{length-map, length-replicate, take_all, with_items_is}
use Rattle.std.proofs.lemmas.List.Elements.{All-same}
use Rattle.std.proofs.lemmas.Result.{on_ok_weaker}
use Rattle.bg_types.specs.declared.class.Bidi.{Bidi}
use Rattle.unicode_tables.specs.Tables.{TableValues, bidi_of}
use Rattle.bidi_explicit.specs.Embedding.{embedding_at}
use Rattle.bidi_explicit.proofs.Interface.{sequences-within}
use Rattle.bidi_weak_neutral.specs.Levels.{resolved_levels}
use Rattle.bidi_weak_neutral.proofs.Bounds.{resolved_levels-le}
use Rattle.bidi_weak_neutral.proofs.PlainParagraph.{plain-at_zero}
use Rattle.bidi_weak_neutral.proofs.UniformLevels.{uniform-resolved}
use Rattle.bidi_weak_neutral.proofs.paragraph.levels_into.Goals as goal

-- a list that was emptied holds the level throughout
throughout : (items old : List ℕ) (n k level : ℕ) → items ≡ take n old ++ replicate (n - k) level → old ≡ [] → k ≡ 0 → items ≡ replicate n level
throughout items old n k level is none zero =
    let all : n - 0 ≡ n = omega arith in
    is ∙ ap₂ (λ (xs : List ℕ) (m : ℕ). take n xs ++ replicate (n - m) level) none zero
    ∙ ap (λ (xs : List ℕ). xs ++ replicate (n - 0) level) (take_all n [] (omega arith)) ∙ ap (λ m. replicate m level) all

low : (tables : TableValues) (level : ℕ) (points : List ℕ) (cs : List Bidi) (levels : List ℕ) → level ≤ 1 → levels ≡ resolved_levels tables points (embedding_at level cs) →
    All (λ level. level ≤ 126) levels
low tables level points cs levels h is =
    All-same (λ level. level ≤ 126) _ _ is (resolved_levels-le tables points (embedding_at level cs) (omega arith) (sequences-within level cs h))

pub returns-then-are_plain-clause-levels : goal.returns-then-are_plain-clause-levels
returns-then-are_plain-clause-levels c =
    throughout c.resize.new.self.items _ _ _ _ c.in_ok-resize.ensures.items c.clear.ensures.items c.clear.ensures.len
    ∙ ap (replicate (length c.args.points.now)) c.if-level-eq0.true
    ∙ plain-at_zero c.args.tables.now c.args.points.now c.args.level c.args.classes.now c.if-level-eq0.true
    (sym c.are_plain.ensures ∙ c.if-are_plain.true) c.requires.classes

pub returns-then-are_plain-clause-one_each : goal.returns-then-are_plain-clause-one_each
returns-then-are_plain-clause-one_each c =
    ap length (throughout c.resize.new.self.items _ _ _ _ c.in_ok-resize.ensures.items c.clear.ensures.items c.clear.ensures.len)
    ∙ length-replicate (length c.args.points.now) c.args.level

pub returns-then-are_plain-clause-bound : goal.returns-then-are_plain-clause-bound
returns-then-are_plain-clause-bound c =
    low c.args.tables.now c.args.level c.args.points.now c.args.classes.now _ c.requires.level (returns-then-are_plain-clause-levels c)

pub resolve_by_controls-requires-clause-classes : goal.resolve_by_controls-requires-clause-classes
resolve_by_controls-requires-clause-classes c = ap length c.requires.classes ∙ length-map c.args.points.now (bidi_of c.args.tables.now)

pub resolve_by_controls-requires-clause-levels : goal.resolve_by_controls-requires-clause-levels
resolve_by_controls-requires-clause-levels c =
    c.deref_mut.ensures.value ∙ throughout c.resize.new.self.items _ _ _ _ c.in_ok-resize.ensures.items c.clear.ensures.items c.clear.ensures.len

pub returns-then-has_controls-clause-levels : goal.returns-then-has_controls-clause-levels
returns-then-has_controls-clause-levels c =
    on_ok_weaker c.resolve_by_controls.result
    (λ is. with_items_is c.resize.new.self c.resolve_by_controls.new.levels (omega (arith, ap length c.deref_mut.ensures.value, c.resize.new.self.ok.0)) ∙ is)
    c.resolve_by_controls.ensures

pub returns-then-has_controls-clause-bound : goal.returns-then-has_controls-clause-bound
returns-then-has_controls-clause-bound c =
    on_ok_weaker c.resolve_by_controls.result
    (λ is. low c.args.tables.now c.args.level c.args.points.now c.args.classes.now _ c.requires.level is)
    (returns-then-has_controls-clause-levels c)

pub resolve_uniform-requires-clause-classes : goal.resolve_uniform-requires-clause-classes
resolve_uniform-requires-clause-classes c = ap length c.requires.classes ∙ length-map c.args.points.now (bidi_of c.args.tables.now)

pub returns-clause-levels : goal.returns-clause-levels
returns-clause-levels c =
    let long : length c.args.classes.now ≡ length c.args.points.now = ap length c.requires.classes ∙ length-map c.args.points.now (bidi_of c.args.tables.now) in
    on_ok_weaker c.resolve_uniform.result
    (λ is.
    with_items_is c.resize.new.self c.resolve_uniform.new.levels (omega (arith, ap length c.deref_mut-2.ensures.value, c.resize.new.self.ok.0))
    ∙ is
    ∙ uniform-resolved c.args.tables.now c.args.level c.args.points.now c.args.classes.now (sym c.has_controls.ensures ∙ c.if-has_controls.false) (sym long)
    (omega (arith, ap length is, ap length c.deref_mut-2.ensures.value, c.resize.new.self.ok.0, c.in_ok-resize.ensures.len, c.resolve_uniform.auto.levels)))
    c.resolve_uniform.ensures

pub returns-clause-bound : goal.returns-clause-bound
returns-clause-bound c =
    on_ok_weaker c.resolve_uniform.result
    (λ is. low c.args.tables.now c.args.level c.args.points.now c.args.classes.now _ c.requires.level is)
    (returns-clause-levels c)
