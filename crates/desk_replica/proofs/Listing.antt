-- Operations that are listed row after row.
use Rattle.std.proofs.Common.{◌≡◌, ◌++◌, List, sym, ap, ◌∙◌, append_assoc}
use Rattle.bg_types.specs.declared.op.OpView.{OpView}
use Rattle.rga_tree.specs.declared.element.Element.{Element}

-- what more rows tell, listed after what the rows before told
pub listed_on : (tell : List Element → List OpView) → ((xs ys : List Element) → tell (xs ++ ys) ≡ tell xs ++ tell ys)
    → (old now new : List OpView) (front row both : List Element) → now ≡ old ++ tell front → new ≡ now ++ tell row → both ≡ front ++ row → new ≡ old ++ tell both
listed_on tell tell-append old now new front row both before more parted =
    more ∙ ap (λ l. l ++ tell row) before ∙ append_assoc old (tell front) (tell row) ∙ ap (λ l. old ++ l) (sym (tell-append front row) ∙ ap tell (sym parted))
