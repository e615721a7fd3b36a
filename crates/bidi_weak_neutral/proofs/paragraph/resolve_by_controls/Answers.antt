-- The levels are those of the sequences, and those of removed places are filled in.
use Rattle.std.proofs.Common.{ℕ, ◌≡◌, ◌≤◌, ◌∙◌, ap, sym, subst, List, length, replicate}
use Rattle.std.specs.List.{All}
use Rattle.std.proofs.lemmas.List.{length-replicate}
use Rattle.bg_types.specs.declared.class.Bidi.{Bidi}
use Rattle.bidi_explicit.specs.Embedding.{Embedding, embedding_at}
use Rattle.bidi_explicit.proofs.Interface.{length-explicit_places, sequences-within}
use Rattle.bidi_weak_neutral.specs.Levels.{kept_levels, filled_levels, put_back, resolved_levels}
use Rattle.bidi_weak_neutral.proofs.paragraph.resolve_by_controls.Goals as goal

-- the list has a level for each place
long : (levels points : List ℕ) (level : ℕ) (cs : List Bidi) (e : Embedding) → levels ≡ replicate (length points) level → length cs ≡ length points →
    e ≡ embedding_at level cs → length levels ≡ length e.places
long levels points level cs e is many made =
    ap length is ∙ length-replicate (length points) level ∙ sym many ∙ sym (ap (λ e. length e.places) made ∙ length-explicit_places level cs)

pub put_back-requires-clause-points : goal.put_back-requires-clause-points
put_back-requires-clause-points c =
    sym c.requires.classes ∙ sym (ap (λ e. length e.places) c.in_ok-embed.ensures.ok ∙ length-explicit_places c.args.level c.args.classes.now)

pub put_back-requires-clause-levels : goal.put_back-requires-clause-levels
put_back-requires-clause-levels c =
    long c.args.levels.now c.args.points.now c.args.level c.args.classes.now c.embed.new.self c.requires.levels c.requires.classes c.in_ok-embed.ensures.ok

pub put_back-requires-clause-depth : goal.put_back-requires-clause-depth
put_back-requires-clause-depth c =
    subst (λ e. All (λ s. s.level ≤ 125) e.sequences) (sym c.in_ok-embed.ensures.ok) (sequences-within c.args.level c.args.classes.now c.requires.level)

pub fill_removed-requires : goal.fill_removed-requires
fill_removed-requires c =
    c.put_back.auto.levels
    ∙ long c.args.levels.now c.args.points.now c.args.level c.args.classes.now c.embed.new.self c.requires.levels c.requires.classes c.in_ok-embed.ensures.ok
    ∙ ap length (sym c.places.ensures)

pub returns : goal.returns
returns c =
    let tables = c.args.tables.now in
    let points = c.args.points.now in
    let e = c.embed.new.self in
    let throughout : c.args.levels.now ≡ replicate (length c.args.points.now) c.embed.new.self.level =
    c.requires.levels ∙ ap (replicate (length points)) (sym (ap (λ e. e.level) c.in_ok-embed.ensures.ok)) in
    c.fill_removed.ensures
    ∙ ap (λ l. filled_levels l (kept_levels c.places.result.now c.put_back.new.levels)) c.level.ensures
    ∙ ap (λ places. filled_levels e.level (kept_levels places c.put_back.new.levels)) c.places.ensures
    ∙ ap (λ levels. filled_levels e.level (kept_levels e.places levels)) c.in_ok-put_back.ensures
    ∙ ap (λ levels. filled_levels e.level (kept_levels e.places (put_back tables points e.places levels e.sequences))) throughout
    ∙ ap (resolved_levels tables points) c.in_ok-embed.ensures.ok
