-- A use that finds the key's rows, one that lays them out, and what is left where memory ends.
use Rattle.std.proofs.Common.{true, false, refl, sym, ap, subst, ◌∙◌}
use Rattle.cell_grid.proofs.Interface.{on_err}
use Rattle.view_cache.specs.Keys.{said, paragraph_key}
use Rattle.view_cache.specs.KeptParagraphs.{AreLaid}
use Rattle.view_cache.specs.Kept.{laid_said, IsKept}
use Rattle.view_cache.proofs.Kept.{kept_of, laid-right, used-promoted, used-missed, unmoved, use-done, newest-done, laid-done}
use Rattle.view_cache.proofs.kept_rows.KeptRows.keep.Goals as goal

pub invariant_of-self : goal.invariant_of-self
invariant_of-self c =
    let tables = c.args.tables.now in
    let hash_key = c.self.inside.hash_key in
    let kept = c.self.inside.kept in
    let key = c.in_ok-key.key in
    let hashed = c.in_ok-key.ensures.hashed in
    let used = used-promoted tables hash_key kept c.promote.new.self key hashed c.self.invariant c.promote.ensures.entries (sym c.if-promote.ensures.value) in
    used.kept

pub returns-then-promote-clause-use_ok : goal.returns-then-promote-clause-use_ok
returns-then-promote-clause-use_ok c =
    let tables = c.args.tables.now in
    let hash_key = c.self.inside.hash_key in
    let kept = c.self.inside.kept in
    let key = c.in_ok-key.key in
    let hashed = c.in_ok-key.ensures.hashed in
    let says = c.in_ok-key.ensures.says ∙ ap (λ t. paragraph_key t c.args.width c.args.base) c.text.ensures in
    let used = used-promoted tables hash_key kept c.promote.new.self key hashed c.self.invariant c.promote.ensures.entries (sym c.if-promote.ensures.value) in
    use-done tables hash_key kept c.promote.new.self c.args.self.now c.self.view_is key (paragraph_key c.args.para.now.text c.args.width c.args.base) says hashed c.self.invariant used true false c.if-promote.ensures.value refl

pub returns-then-promote-clause-newest : goal.returns-then-promote-clause-newest
returns-then-promote-clause-newest c =
    let tables = c.args.tables.now in
    let hash_key = c.self.inside.hash_key in
    let kept = c.self.inside.kept in
    let key = c.in_ok-key.key in
    let hashed = c.in_ok-key.ensures.hashed in
    let says = c.in_ok-key.ensures.says ∙ ap (λ t. paragraph_key t c.args.width c.args.base) c.text.ensures in
    let used = used-promoted tables hash_key kept c.promote.new.self key hashed c.self.invariant c.promote.ensures.entries (sym c.if-promote.ensures.value) in
    newest-done tables hash_key kept c.promote.new.self c.args.self.now c.self.view_is key (paragraph_key c.args.para.now.text c.args.width c.args.base) says hashed c.self.invariant used

pub returns-then-promote-clause-laid : goal.returns-then-promote-clause-laid
returns-then-promote-clause-laid c =
    let tables = c.args.tables.now in
    let hash_key = c.self.inside.hash_key in
    let kept = c.self.inside.kept in
    let key = c.in_ok-key.key in
    let hashed = c.in_ok-key.ensures.hashed in
    let says = c.in_ok-key.ensures.says ∙ ap (λ t. paragraph_key t c.args.width c.args.base) c.text.ensures in
    let used = used-promoted tables hash_key kept c.promote.new.self key hashed c.self.invariant c.promote.ensures.entries (sym c.if-promote.ensures.value) in
    laid-done tables hash_key kept c.promote.new.self c.args.self.now c.self.view_is key (paragraph_key c.args.para.now.text c.args.width c.args.base) says hashed c.self.invariant used

pub invariant_of-self-in_err-laid : goal.invariant_of-self-in_err-laid
invariant_of-self-in_err-laid c =
    let tables = c.args.tables.now in
    let hash_key = c.self.inside.hash_key in
    let kept = c.self.inside.kept in
    let key = c.in_ok-key.key in
    let hashed = c.in_ok-key.ensures.hashed in
    let same = unmoved tables hash_key kept kept key hashed c.self.invariant c.promote.new.self c.promote.ensures.entries (sym c.if-promote.ensures.value) in
    subst (IsKept hash_key) (sym same) c.self.invariant

pub returns-in_err-laid-clause-laid : goal.returns-in_err-laid-clause-laid
returns-in_err-laid-clause-laid c =
    let tables = c.args.tables.now in
    let hash_key = c.self.inside.hash_key in
    let kept = c.self.inside.kept in
    let key = c.in_ok-key.key in
    let hashed = c.in_ok-key.ensures.hashed in
    let same = unmoved tables hash_key kept kept key hashed c.self.invariant c.promote.new.self c.promote.ensures.entries (sym c.if-promote.ensures.value) in
    λ laid. subst (AreLaid tables) (sym (ap (kept_of hash_key) same ∙ c.self.view_is)) laid

pub returns-in_err-laid-clause-err : goal.returns-in_err-laid-clause-err
returns-in_err-laid-clause-err c =
    let tables = c.args.tables.now in
    let hash_key = c.self.inside.hash_key in
    let kept = c.self.inside.kept in
    let key = c.in_ok-key.key in
    let hashed = c.in_ok-key.ensures.hashed in
    let same = unmoved tables hash_key kept kept key hashed c.self.invariant c.promote.new.self c.promote.ensures.entries (sym c.if-promote.ensures.value) in
    on_err c.from_residual-in_err-laid.result (ap (kept_of hash_key) same ∙ c.self.view_is)

pub invariant_of-self-in_err-put : goal.invariant_of-self-in_err-put
invariant_of-self-in_err-put c =
    let tables = c.args.tables.now in
    let hash_key = c.self.inside.hash_key in
    let kept = c.self.inside.kept in
    let key = c.in_ok-key.key in
    let hashed = c.in_ok-key.ensures.hashed in
    let same = unmoved tables hash_key kept kept key hashed c.self.invariant c.promote.new.self c.promote.ensures.entries (sym c.if-promote.ensures.value) in
    subst (IsKept hash_key) (sym (c.in_err-put.ensures.err ∙ same)) c.self.invariant

pub returns-in_err-put-clause-laid : goal.returns-in_err-put-clause-laid
returns-in_err-put-clause-laid c =
    let tables = c.args.tables.now in
    let hash_key = c.self.inside.hash_key in
    let kept = c.self.inside.kept in
    let key = c.in_ok-key.key in
    let hashed = c.in_ok-key.ensures.hashed in
    let same = unmoved tables hash_key kept kept key hashed c.self.invariant c.promote.new.self c.promote.ensures.entries (sym c.if-promote.ensures.value) in
    λ laid. subst (AreLaid tables) (sym (ap (kept_of hash_key) (c.in_err-put.ensures.err ∙ same) ∙ c.self.view_is)) laid

pub returns-in_err-put-clause-err : goal.returns-in_err-put-clause-err
returns-in_err-put-clause-err c =
    let tables = c.args.tables.now in
    let hash_key = c.self.inside.hash_key in
    let kept = c.self.inside.kept in
    let key = c.in_ok-key.key in
    let hashed = c.in_ok-key.ensures.hashed in
    let same = unmoved tables hash_key kept kept key hashed c.self.invariant c.promote.new.self c.promote.ensures.entries (sym c.if-promote.ensures.value) in
    on_err c.from_residual-in_err-put.result (ap (kept_of hash_key) (c.in_err-put.ensures.err ∙ same) ∙ c.self.view_is)

pub invariant_of-self-2 : goal.invariant_of-self-2
invariant_of-self-2 c =
    let tables = c.args.tables.now in
    let hash_key = c.self.inside.hash_key in
    let kept = c.self.inside.kept in
    let key = c.in_ok-key.key in
    let hashed = c.in_ok-key.ensures.hashed in
    let says = c.in_ok-key.ensures.says ∙ ap (λ t. paragraph_key t c.args.width c.args.base) c.text.ensures in
    let right = laid-right tables (said key) (paragraph_key c.args.para.now.text c.args.width c.args.base) (laid_said c.in_ok-laid.laid) says c.in_ok-laid.ensures in
    let used = used-missed tables hash_key kept c.put.new.self key hashed c.self.invariant c.promote.new.self c.in_ok-laid.laid c.promote.ensures.entries (sym c.if-promote.ensures.value) c.in_ok-put.ensures.entries right in
    used.kept

pub returns-clause-use_ok : goal.returns-clause-use_ok
returns-clause-use_ok c =
    let tables = c.args.tables.now in
    let hash_key = c.self.inside.hash_key in
    let kept = c.self.inside.kept in
    let key = c.in_ok-key.key in
    let hashed = c.in_ok-key.ensures.hashed in
    let says = c.in_ok-key.ensures.says ∙ ap (λ t. paragraph_key t c.args.width c.args.base) c.text.ensures in
    let right = laid-right tables (said key) (paragraph_key c.args.para.now.text c.args.width c.args.base) (laid_said c.in_ok-laid.laid) says c.in_ok-laid.ensures in
    let used = used-missed tables hash_key kept c.put.new.self key hashed c.self.invariant c.promote.new.self c.in_ok-laid.laid c.promote.ensures.entries (sym c.if-promote.ensures.value) c.in_ok-put.ensures.entries right in
    use-done tables hash_key kept c.put.new.self c.args.self.now c.self.view_is key (paragraph_key c.args.para.now.text c.args.width c.args.base) says hashed c.self.invariant used false true c.if-promote.ensures.value refl

pub returns-clause-newest : goal.returns-clause-newest
returns-clause-newest c =
    let tables = c.args.tables.now in
    let hash_key = c.self.inside.hash_key in
    let kept = c.self.inside.kept in
    let key = c.in_ok-key.key in
    let hashed = c.in_ok-key.ensures.hashed in
    let says = c.in_ok-key.ensures.says ∙ ap (λ t. paragraph_key t c.args.width c.args.base) c.text.ensures in
    let right = laid-right tables (said key) (paragraph_key c.args.para.now.text c.args.width c.args.base) (laid_said c.in_ok-laid.laid) says c.in_ok-laid.ensures in
    let used = used-missed tables hash_key kept c.put.new.self key hashed c.self.invariant c.promote.new.self c.in_ok-laid.laid c.promote.ensures.entries (sym c.if-promote.ensures.value) c.in_ok-put.ensures.entries right in
    newest-done tables hash_key kept c.put.new.self c.args.self.now c.self.view_is key (paragraph_key c.args.para.now.text c.args.width c.args.base) says hashed c.self.invariant used

pub returns-clause-laid : goal.returns-clause-laid
returns-clause-laid c =
    let tables = c.args.tables.now in
    let hash_key = c.self.inside.hash_key in
    let kept = c.self.inside.kept in
    let key = c.in_ok-key.key in
    let hashed = c.in_ok-key.ensures.hashed in
    let says = c.in_ok-key.ensures.says ∙ ap (λ t. paragraph_key t c.args.width c.args.base) c.text.ensures in
    let right = laid-right tables (said key) (paragraph_key c.args.para.now.text c.args.width c.args.base) (laid_said c.in_ok-laid.laid) says c.in_ok-laid.ensures in
    let used = used-missed tables hash_key kept c.put.new.self key hashed c.self.invariant c.promote.new.self c.in_ok-laid.laid c.promote.ensures.entries (sym c.if-promote.ensures.value) c.in_ok-put.ensures.entries right in
    laid-done tables hash_key kept c.put.new.self c.args.self.now c.self.view_is key (paragraph_key c.args.para.now.text c.args.width c.args.base) says hashed c.self.invariant used
