-- A gap that is carried over a change.
use Rattle.std.proofs.Common.{◌≡◌, ◌≤◌, ◌<◌, ℕ, zero, suc, List, [], ◌∷◌, length, take, drop, refl, sym, ap, subst, arith}
use Rattle.std.specs.Prelude.{insert, remove}
use Rattle.bg_types.specs.declared.change.Change.{Change}
use Rattle.bg_types.specs.declared.change.Change.TheVariants.{Put, Cut}
use Rattle.bg_types.specs.Edit.{IsInRange}
use Rattle.live_document.specs.Carrying.{IsCarried, KeepsItsSide}

drop-put : {X : Type 0} (xs : List X) (k g : ℕ) (x : X) → k ≤ g → g ≤ length xs → drop (suc g) (insert xs k x) ≡ drop g xs
drop-put xs zero g x low within = refl
drop-put [] (suc k) g x low within = absurd (omega arith)
drop-put (y ∷ xs) (suc k) zero x low within = absurd (omega arith)
drop-put (y ∷ xs) (suc k) (suc g) x low within = drop-put xs k g x (omega arith) (omega arith)

take-put : {X : Type 0} (xs : List X) (k g : ℕ) (x : X) → g < k → k ≤ length xs → take g (insert xs k x) ≡ take g xs
take-put xs zero g x low within = absurd (omega arith)
take-put [] (suc k) g x low within = absurd (omega arith)
take-put (y ∷ xs) (suc k) zero x low within = refl
take-put (y ∷ xs) (suc k) (suc g) x low within = ap (λ l. y ∷ l) (take-put xs k g x (omega arith) (omega arith))

drop-cut : {X : Type 0} (xs : List X) (k g : ℕ) → k ≤ g → g < length xs → drop g (remove xs k) ≡ drop (suc g) xs
drop-cut [] k g low within = absurd (omega arith)
drop-cut (y ∷ xs) zero g low within = refl
drop-cut (y ∷ xs) (suc k) zero low within = absurd (omega arith)
drop-cut (y ∷ xs) (suc k) (suc g) low within = drop-cut xs k g (omega arith) (omega arith)

take-cut : {X : Type 0} (xs : List X) (k g : ℕ) → g ≤ k → k < length xs → take g (remove xs k) ≡ take g xs
take-cut [] k g low within = absurd (omega arith)
take-cut (y ∷ xs) zero zero low within = refl
take-cut (y ∷ xs) zero (suc g) low within = absurd (omega arith)
take-cut (y ∷ xs) (suc k) zero low within = refl
take-cut (y ∷ xs) (suc k) (suc g) low within = ap (λ l. y ∷ l) (take-cut xs k g (omega arith) (omega arith))

pub keeps-side : (text : List ℕ) (change : Change) (gap after : ℕ) → IsInRange text change → gap ≤ length text → IsCarried change gap after → KeepsItsSide text change gap after
keeps-side text (Put place ch) gap after within has is = record {
  right = λ left. subst (λ n. drop n (insert text place ch) ≡ drop gap text) (sym (is.put place ch refl left)) (drop-put text place gap ch left has);
  left = λ right. subst (λ n. take n (insert text place ch) ≡ take gap text) (sym (is.stays right)) (take-put text place gap ch right within);
}
keeps-side text (Cut place) gap after within has is = record {
  right = λ left. subst (λ n. drop after (remove text place) ≡ drop n text) (is.cut place refl left) (drop-cut text place after (let one = is.cut place refl left in omega arith) (let one = is.cut place refl left in omega arith));
  left = λ right. subst (λ n. take n (remove text place) ≡ take gap text) (sym (is.stays right)) (take-cut text place gap right within);
}
