-- Edits one after the other.
use Rattle.std.proofs.Common.{◌≡◌, ◌++◌, ℕ, List, [], ◌∷◌, refl, sym, subst, ◌∙◌}
use Rattle.bg_types.specs.declared.change.Change.{Change}
use Rattle.bg_types.specs.Edit.{IsEdit, changed}

-- changes lead to one text
pub edit_once : (old a b : List ℕ) (changes : List Change) → IsEdit old changes a → IsEdit old changes b → a ≡ b
edit_once old a b [] to_a to_b = to_a ∙ sym to_b
edit_once old a b (x ∷ xs) to_a to_b = edit_once (changed old x) a b xs to_a.1 to_b.1

-- from the old text to one between, and on from there
pub edit_both : (old between new : List ℕ) (one more : List Change) → IsEdit old one between → IsEdit between more new → IsEdit old (one ++ more) new
edit_both old between new [] more first second = subst (λ t. IsEdit t more new) first second
edit_both old between new (x ∷ xs) more first second = (first.0, edit_both (changed old x) between new xs more first.1 second)

pub edit_parts : (old new : List ℕ) (one more : List Change) → IsEdit old (one ++ more) new → (between : List ℕ) × (IsEdit old one between × IsEdit between more new)
edit_parts old new [] more all = (old, (refl, all))
edit_parts old new (x ∷ xs) more all =
    let rest = edit_parts (changed old x) new xs more all.1 in
    (rest.0, ((all.0, rest.1.0), rest.1.1))
