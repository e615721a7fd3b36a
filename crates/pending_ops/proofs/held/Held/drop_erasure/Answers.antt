-- The goals of `drop_erasure` that are answered by hand.
use Rattle.std.proofs.Common.{◌≡◌, Bool, true, false, cond, List, [], ◌∷◌, ap, sym, refl, ◌∙◌, length, arith, rules}
use Rattle.bg_types.specs.Identifier.{Identifier, id_cmp}
use Rattle.std.specs.FinSet as set
use Rattle.pending_ops.specs.Waiting.{Waiting, without_erasure}
use Rattle.pending_ops.proofs.Tables.{id_eq, list_any-id_eq}
use Rattle.pending_ops.specs.Chains.{insertions_of}
use Rattle.pending_ops.proofs.Views.{contains-from_list, from_list-removed}
use Rattle.pending_ops.proofs.held.Held.drop_erasure.Goals as goal

pub returns-clause-found : goal.returns-clause-found
returns-clause-found c =
    c.swap_remove.ensures.found ∙ list_any-id_eq c.self.inside.erased.keys c.args.id ∙ sym (contains-from_list c.self.inside.erased.keys c.args.id)
    ∙ ap (λ (w : Waiting). set.contains w.held.del c.args.id) c.self.view_is

pub returns-clause-dropped : goal.returns-clause-dropped
returns-clause-dropped c =
    let less = from_list-removed c.self.inside.erased.keys c.swap_remove.new.self.keys c.args.id c.swap_remove.ensures.updates.0 in
    (λ i. record { ins = insertions_of c.self.inside.slots.entries; del = less i }) ∙ ap (λ (w : Waiting). without_erasure w.held c.args.id) c.self.view_is

abbrev from_ids : List Identifier → set.FinSet id_cmp
from_ids xs = set.from_list xs

-- where there is none, none can be dropped
none_kept : (xs : List Identifier) (id : Identifier) → length xs ≡ 0 → from_ids xs ≡ set.remove (from_ids xs) id
none_kept [] id none = from_list-removed [] [] id (λ q. nothing (id_eq id q)) where
  nothing : (b : Bool) → false ≡ cond b false false
  nothing true = refl
  nothing false = refl
none_kept (x ∷ xs) id none = absurd (omega arith)

none_found : (xs : List Identifier) (id : Identifier) → length xs ≡ 0 → false ≡ set.contains (from_ids xs) id
none_found [] id none = sym (contains-from_list [] id)
none_found (x ∷ xs) id none = absurd (omega arith)

pub returns-then-is_empty-clause-found : goal.returns-then-is_empty-clause-found
returns-then-is_empty-clause-found c =
    let none : length c.self.inside.erased.keys ≡ 0 = search rules in
    none_found c.self.inside.erased.keys c.args.id none ∙ ap (λ (w : Waiting). set.contains w.held.del c.args.id) c.self.view_is

pub returns-then-is_empty-clause-dropped : goal.returns-then-is_empty-clause-dropped
returns-then-is_empty-clause-dropped c =
    let none : length c.self.inside.erased.keys ≡ 0 = search rules in
    ap (λ (w : Waiting). w.held) (sym c.self.view_is)
    ∙ (λ i. record { ins = insertions_of c.self.inside.slots.entries; del = none_kept c.self.inside.erased.keys c.args.id none i })
    ∙ ap (λ (w : Waiting). without_erasure w.held c.args.id) c.self.view_is
