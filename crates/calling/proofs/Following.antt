-- A buffer follows changes one after the other.
use Rattle.std.proofs.Common.{◌≡◌, ◌++◌, ◌+◌, ◌<◌, ℕ, List, [], ◌∷◌, length, take, drop, get_or, sym, ap, subst, ◌∙◌}
use Rattle.std.proofs.lemmas.List.{take_more, drop_more, take-append-drop}
use Rattle.bg_types.specs.declared.change.Change.{Change}
use Rattle.bg_types.specs.Edit.{IsEdit, IsInRange, changed}
use Rattle.bg_types.proofs.Interface.{edit_once, edit_both, edit_parts}

module _ (old now new : List ℕ) (changes : List Change) (j : ℕ) (any : Change) (within : j < length changes) (edit : IsEdit old changes new) (done : IsEdit old (take j changes) now) where
  rest : IsEdit now (get_or changes j any ∷ drop (j + 1) changes) new
  rest =
      let split : changes ≡ take j changes ++ get_or changes j any ∷ drop (j + 1) changes = sym (take-append-drop j changes) ∙ ap (λ l. take j changes ++ l) (drop_more changes j any within) in
      let parts = edit_parts old new (take j changes) (get_or changes j any ∷ drop (j + 1) changes) (subst (λ l. IsEdit old l new) split edit) in
      subst (λ t. IsEdit t (get_or changes j any ∷ drop (j + 1) changes) new) (edit_once old parts.0 now (take j changes) parts.1.0 done) parts.1.1

  -- the next change's place is in range
  pub next_in_range : IsInRange now (get_or changes j any)
  next_in_range = rest.0

  -- and it leads on
  pub next_done : (after : List ℕ) → after ≡ changed now (get_or changes j any) → IsEdit old (take (j + 1) changes) after
  next_done after made =
      subst (λ l. IsEdit old l after) (sym (take_more changes j any within))
      (edit_both old now after (take j changes) (get_or changes j any ∷ []) done (rest.0, made))
