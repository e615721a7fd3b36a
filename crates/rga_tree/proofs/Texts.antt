-- The text as the characters of the visible elements, one element after the other.
use Rattle.std.proofs.Common.{◌≡◌, ℕ, zero, suc, ◌+◌, ◌<◌, true, false, cond, not, List, [], ◌∷◌, ◌++◌, length, take, get_or, refl, sym, ap, ◌∙◌, append_assoc, arith}
use Rattle.std.proofs.lemmas.List.{append-nil}
use Rattle.std.proofs.Math.Seq.{take-length}
use Rattle.std.specs.Prelude.{map as each, filter, encode_utf8, encode_utf8_all}
use Rattle.bg_types.specs.OperationSet.{OperationSet}
use Rattle.bg_types.specs.declared.op.Place.TheVariants.{Root}
use Rattle.rga_tree.specs.declared.element.Element.{Element}
use Rattle.rga_tree.specs.Walk.{walk}
use Rattle.rga_tree.specs.TextOf.{is_erased, text}
use Rattle.rga_tree.specs.Elements.{element_of, elements}
use Rattle.rga_tree.specs.Row.{shown_of}
use Rattle.rga_tree.specs.Spot.{joined}
use Rattle.rga_tree.proofs.WalkAmong.{Entry}

pub text-elements : (s : OperationSet) → text s ≡ shown_of (elements s)
text-elements s = by_walk (walk s Root) where
  by_walk : (es : List Entry) → each (λ (e : Entry). e.1.ch) (filter (λ e. not (is_erased s e.0)) es) ≡ shown_of (each (element_of s) es)
  by_walk [] = refl
  by_walk (e ∷ es) =
      elim (is_erased s e.0) as (λ b. each (λ (x : Entry). x.1.ch) (cond (not b) (e ∷ filter (λ x. not (is_erased s x.0)) es) (filter (λ x. not (is_erased s x.0)) es))
      ≡ each (λ (x : Element). x.ch) (cond (not b) (element_of s e ∷ filter (λ x. not x.hidden) (each (element_of s) es)) (filter (λ x. not x.hidden) (each (element_of s) es)))) [
        | true ↦ by_walk es
        | false ↦ ap (λ t. e.1.ch ∷ t) (by_walk es)
      ]

-- one more element
shown_next : (row : List Element) (j : ℕ) (e : Element) → j < length row → e ≡ get_or row j e → shown_of (take (suc j) row) ≡ shown_of (take j row) ++ cond (not e.hidden) (e.ch ∷ []) []
shown_next [] j e there is = absurd (omega arith)
shown_next (x ∷ row) zero e there is =
    elim x.hidden as (λ b. each (λ (y : Element). y.ch) (cond (not b) (x ∷ []) []) ≡ cond (not b) (x.ch ∷ []) []) [ true ↦ refl | false ↦ refl ]
    ∙ ap (λ (y : Element). cond (not y.hidden) (y.ch ∷ []) []) (sym is)
shown_next (x ∷ row) (suc j) e there is =
    let rest = shown_next row j e (omega arith) is in
    elim x.hidden as (λ b. each (λ (y : Element). y.ch) (cond (not b) (x ∷ filter (λ y. not y.hidden) (take (suc j) row)) (filter (λ y. not y.hidden) (take (suc j) row)))
    ≡ each (λ (y : Element). y.ch) (cond (not b) (x ∷ filter (λ y. not y.hidden) (take j row)) (filter (λ y. not y.hidden) (take j row))) ++ cond (not e.hidden) (e.ch ∷ []) []) [
      | true ↦ rest
      | false ↦ ap (λ t. x.ch ∷ t) rest
    ]

encode-append : (xs ys : List ℕ) → encode_utf8_all (xs ++ ys) ≡ encode_utf8_all xs ++ encode_utf8_all ys
encode-append [] ys = refl
encode-append (x ∷ xs) ys = ap (λ t. encode_utf8 x ++ t) (encode-append xs ys) ∙ sym (append_assoc (encode_utf8 x) (encode_utf8_all xs) (encode_utf8_all ys))

-- the bytes of the visible characters
abbrev pub bytes_of : List Element → List ℕ
bytes_of row = encode_utf8_all (shown_of row)

pub bytes-hidden : (row : List Element) (j : ℕ) (e : Element) → j < length row → e ≡ get_or row j e → e.hidden ≡ true → bytes_of (take (j + 1) row) ≡ bytes_of (take j row)
bytes-hidden row j e there is hidden =
    let next : j + 1 ≡ suc j = omega arith in
    rw next (ap encode_utf8_all (shown_next row j e there is ∙ ap (λ b. shown_of (take j row) ++ cond (not b) (e.ch ∷ []) []) hidden ∙ append-nil (shown_of (take j row))))

pub bytes-visible : (row : List Element) (j : ℕ) (e : Element) → j < length row → e ≡ get_or row j e → e.hidden ≡ false → bytes_of (take (j + 1) row) ≡ bytes_of (take j row) ++ encode_utf8 e.ch
bytes-visible row j e there is visible =
    let next : j + 1 ≡ suc j = omega arith in
    rw next (ap encode_utf8_all (shown_next row j e there is ∙ ap (λ b. shown_of (take j row) ++ cond (not b) (e.ch ∷ []) []) visible)
    ∙ encode-append (shown_of (take j row)) (e.ch ∷ []) ∙ ap (λ t. bytes_of (take j row) ++ t) (append-nil (encode_utf8 e.ch)))

shown-append : (xs ys : List Element) → shown_of (xs ++ ys) ≡ shown_of xs ++ shown_of ys
shown-append [] ys = refl
shown-append (x ∷ xs) ys =
    elim x.hidden as (λ b. each (λ (y : Element). y.ch) (cond (not b) (x ∷ filter (λ y. not y.hidden) (xs ++ ys)) (filter (λ y. not y.hidden) (xs ++ ys)))
    ≡ each (λ (y : Element). y.ch) (cond (not b) (x ∷ filter (λ y. not y.hidden) xs) (filter (λ y. not y.hidden) xs)) ++ shown_of ys) [
      | true ↦ shown-append xs ys
      | false ↦ ap (λ t. x.ch ∷ t) (shown-append xs ys)
    ]

pub bytes-append : (xs ys : List Element) → bytes_of (xs ++ ys) ≡ bytes_of xs ++ bytes_of ys
bytes-append xs ys = ap encode_utf8_all (shown-append xs ys) ∙ encode-append (shown_of xs) (shown_of ys)

-- one more part
bytes_next : (parts : List (List Element)) (p : ℕ) → bytes_of (joined (take (suc p) parts)) ≡ bytes_of (joined (take p parts)) ++ bytes_of (get_or parts p [])
bytes_next [] zero = refl
bytes_next [] (suc p) = refl
bytes_next (x ∷ parts) zero = ap bytes_of (append-nil x)
bytes_next (x ∷ parts) (suc p) =
    bytes-append x (joined (take (suc p) parts)) ∙ ap (λ t. bytes_of x ++ t) (bytes_next parts p)
    ∙ sym (append_assoc (bytes_of x) (bytes_of (joined (take p parts))) (bytes_of (get_or parts p [])))
    ∙ ap (λ t. t ++ bytes_of (get_or parts p [])) (sym (bytes-append x (joined (take p parts))))

pub bytes-part : (parts : List (List Element)) (p : ℕ) → bytes_of (joined (take (p + 1) parts)) ≡ bytes_of (joined (take p parts)) ++ bytes_of (get_or parts p [])
bytes-part parts p = let next : p + 1 ≡ suc p = omega arith in rw next (bytes_next parts p)

pub bytes-whole : (s : OperationSet) (parts : List (List Element)) (p : ℕ) → joined parts ≡ elements s → p ≡ length parts → bytes_of (joined (take p parts)) ≡ encode_utf8_all (text s)
bytes-whole s parts p whole all =
    ap (λ n. bytes_of (joined (take n parts))) all ∙ ap (λ r. bytes_of (joined r)) (take-length parts) ∙ ap bytes_of whole ∙ ap encode_utf8_all (sym (text-elements s))
