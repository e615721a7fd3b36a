-- A map that reads the list before a place only through a summary is one scan.
use Rattle.std.proofs.Common.{◌≡◌, refl, ap, ◌∙◌, List, [], ◌∷◌}
use Rattle.bidi_weak_neutral.specs.Context.{in_context_from}

abbrev pub scan : {A B S : Type 0} → (S → A → List A → B) → (S → A → S) → S → List A → List B
scan h step s [] = []
scan h step s (x ∷ xs) = h s x xs ∷ scan h step (step s x) xs

pub cons_eq : {A : Type 0} {x y : A} {xs ys : List A} → x ≡ y → xs ≡ ys → (x ∷ xs) ≡ (y ∷ ys)
cons_eq e f = cc

pub in_context_from-scan : {A B S : Type 0} (f : List A → A → List A → B) (g : List A → S) (h : S → A → List A → B) (step : S → A → S)
    → ((before : List A) (x : A) (after : List A) → f before x after ≡ h (g before) x after)
    → ((before : List A) (x : A) → g (x ∷ before) ≡ step (g before) x)
    → (before xs : List A) → in_context_from f before xs ≡ scan h step (g before) xs
in_context_from-scan f g h step reads steps before [] = refl
in_context_from-scan f g h step reads steps before (x ∷ xs) =
    cons_eq (reads before x xs)
    (in_context_from-scan f g h step reads steps (x ∷ before) xs ∙ ap (λ s. scan h step s xs) (steps before x))
