-- Rows that are read one after the other, and the parts that they are in.
use Rattle.std.proofs.Common.{◌≡◌, ◌≤◌, ◌<◌, ◌+◌, ◌++◌, ℕ, List, [], ◌∷◌, length, take, drop, get_or, sym, ap, ◌∙◌, append_assoc}
use Rattle.std.proofs.lemmas.List.{append-nil, take_more, take-append-drop, take_rest, drop_more, take_all}
use Rattle.std.proofs.Math.Seq.{take-add}
use Rattle.std.specs.Prelude.{slice_range}
use Rattle.std.specs.List.{flat_map}
use Rattle.std.proofs.lemmas.List.Concat.{flat_map-append}
use Rattle.rga_tree.specs.declared.element.Element.{Element}

-- ---- lists

module _ {X : Type 0} where
  pub split_at : (xs : List X) (j : ℕ) (x : X) → j < length xs → x ≡ get_or xs j x → xs ≡ take j xs ++ x ∷ drop (j + 1) xs
  split_at xs j x within is = sym (take-append-drop j xs) ∙ ap (λ l. take j xs ++ l) (drop_more xs j x within ∙ ap (λ y. y ∷ drop (j + 1) xs) (sym is))

  pub take_push : (xs : List X) (j : ℕ) (x : X) → j < length xs → x ≡ get_or xs j x → take (j + 1) xs ≡ take j xs ++ x ∷ []
  take_push xs j x within is = take_more xs j x within ∙ ap (λ y. take j xs ++ y ∷ []) (sym is)

  abbrev pub rest_from : List X → ℕ → List X
  rest_from xs j = slice_range xs j (length xs)

  pub take_behind : (xs : List X) (j n : ℕ) → take (j + n) xs ≡ take j xs ++ take n (rest_from xs j)
  take_behind xs j n = take-add j n xs ∙ ap (λ l. take j xs ++ take n l) (sym (take_rest xs j))

-- the elements of all parts
abbrev pub joined : List (List Element) → List Element
joined parts = flat_map (λ part. part) parts

pub joined_push : (parts : List (List Element)) (p : ℕ) (row : List Element) → p < length parts → row ≡ get_or parts p [] → joined (take (p + 1) parts) ≡ joined (take p parts) ++ row
joined_push parts p row within is =
    ap joined (take_more parts p [] within) ∙ flat_map-append (λ part. part) (take p parts) (get_or parts p [] ∷ [])
    ∙ ap (λ l. joined (take p parts) ++ l) (append-nil (get_or parts p []) ∙ sym is)

pub joined_split : (parts : List (List Element)) (p : ℕ) (row : List Element) → p < length parts → row ≡ get_or parts p []
    → joined parts ≡ joined (take p parts) ++ row ++ joined (drop (p + 1) parts)
joined_split parts p row within is =
    ap joined (sym (take-append-drop p parts) ∙ ap (λ l. take p parts ++ l) (drop_more parts p [] within)) ∙ flat_map-append (λ part. part) (take p parts) (get_or parts p [] ∷ drop (p + 1) parts)
    ∙ sym (append_assoc (joined (take p parts)) (get_or parts p []) (joined (drop (p + 1) parts)))
    ∙ ap (λ r. joined (take p parts) ++ r ++ joined (drop (p + 1) parts)) (sym is)

pub joined_all : (parts : List (List Element)) (p : ℕ) → length parts ≤ p → joined (take p parts) ≡ joined parts
joined_all parts p long = ap joined (take_all p parts long)
