-- A block with an element hidden.
use Rattle.std.proofs.Common.{◌≡◌, ℕ, zero, suc, ◌<◌, ◌≤◌, ◌+◌, ◌&&◌, ◌||◌, Bool, true, cond, not, List, [], ◌∷◌, length, get_or, refl, sym, ap, ◌∙◌, arith}
use Rattle.std.specs.Prelude.{set}
use Rattle.std.specs.List.{list_all, list_any}
use Rattle.std.specs.Ordering.{is_lt}
use Rattle.std.proofs.lemmas.List.{get_or_default}
use Rattle.std.proofs.lemmas.List.Sums.{sum_by-set}
use Rattle.bg_types.specs.Identifier.{Identifier, id_cmp, same_id}
use Rattle.rga_tree.specs.declared.element.Element.{Element}
use Rattle.rga_sequence.specs.Blocks.{seen, is_least}
use Rattle.rga_tree.proofs.Interface.{seen_by, shown_weight}

abbrev pub hidden_at : List Element → ℕ → Element → Element
hidden_at es at d = record (get_or es at d) { hidden = true }

pub seen-hide : (es : List Element) (at : ℕ) (d : Element) → at < length es → seen (set es at (hidden_at es at d)) + cond (get_or es at d).hidden 0 1 ≡ seen es
seen-hide es at d h =
    let y = hidden_at es at d in
    omega (arith, seen_by (set es at y), seen_by es, sum_by-set (λ (e : Element). cond (not e.hidden) 1 0) es at y d h, shown_weight (get_or es at d).hidden)

pub all-hide : (p : Identifier → Bool) (es : List Element) (at : ℕ) (d : Element) → list_all (λ e. p e.id) (set es at (hidden_at es at d)) ≡ list_all (λ e. p e.id) es
all-hide p [] zero d = refl
all-hide p [] (suc at) d = refl
all-hide p (x ∷ es) zero d = refl
all-hide p (x ∷ es) (suc at) d = ap (λ b. p x.id && b) (all-hide p es at d)

pub any-hide : (p : Identifier → Bool) (es : List Element) (at : ℕ) (d : Element) → list_any (λ e. p e.id) (set es at (hidden_at es at d)) ≡ list_any (λ e. p e.id) es
any-hide p [] zero d = refl
any-hide p [] (suc at) d = refl
any-hide p (x ∷ es) zero d = refl
any-hide p (x ∷ es) (suc at) d = ap (λ b. p x.id || b) (any-hide p es at d)

pub least-hide : (m : Identifier) (es : List Element) (at : ℕ) (d : Element) → is_least m (set es at (hidden_at es at d)) ≡ is_least m es
least-hide m es at d = λ i. all-hide (λ q. not (is_lt (id_cmp q m))) es at d i && any-hide (same_id m) es at d i

pub same_at : (es : List Element) (at : ℕ) (x e : Element) → at < length es → x ≡ get_or es at x → e ≡ get_or es at e → x ≡ e
same_at es at x e h p q = p ∙ get_or_default es at x e h ∙ sym q

-- the write of the element that was read, hidden
pub set-hide : (es : List Element) (at : ℕ) (e : Element) → e ≡ get_or es at e → set es at (record e { hidden = true }) ≡ set es at (hidden_at es at e)
set-hide es at e is = ap (λ (x : Element). set es at (record x { hidden = true })) is

-- what one write does to the count: r is the element that was read for it
pub seen-gone : (es : List Element) (at : ℕ) (r e : Element) → at < length es → r ≡ get_or es at r → e ≡ get_or es at e → seen (set es at (record e { hidden = true })) + cond r.hidden 0 1 ≡ seen es
seen-gone es at r e h r_is e_is =
    ap (λ es2. seen es2 + cond r.hidden 0 1) (set-hide es at e e_is)
    ∙ ap (λ (x : Element). seen (set es at (hidden_at es at e)) + cond x.hidden 0 1) (same_at es at r e h r_is e_is ∙ e_is)
    ∙ seen-hide es at e h

pub weight_le-seen : (es : List Element) (at : ℕ) (d : Element) → at < length es → cond (get_or es at d).hidden 0 1 ≤ seen es
weight_le-seen es at d h = omega (arith, seen-hide es at d h)
