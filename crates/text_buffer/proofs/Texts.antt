-- How much stands before a paragraph, in it and behind it.
use Rattle.std.proofs.Common.{◌≡◌, ℕ, ◌+◌, ◌<◌, ◌≤◌, List, [], ◌∷◌, ◌++◌, length, take, drop, get_or, sym, ap, ◌∙◌, arith}
use Rattle.std.proofs.lemmas.List.{take-append-drop, drop_more, drop_all, length-append, append-nil, take_more}
use Rattle.std.specs.List.{concat}
use Rattle.paragraphs.proofs.Interface.{concat-append}
use Rattle.text_buffer.specs.Buffers.{bytes_in}
use Rattle.text_buffer.proofs.Sums.{bytes-append, bytes-one}

-- a paragraph, and what stands on its two sides
pub concat-at : (kept : List (List ℕ)) (i : ℕ) → i < length kept → concat kept ≡ concat (take i kept) ++ (get_or kept i [] ++ concat (drop (i + 1) kept))
concat-at kept i within =
    ap concat (sym (take-append-drop i kept)) ∙ concat-append (take i kept) (drop i kept)
    ∙ ap (λ t. concat (take i kept) ++ concat t) (drop_more kept i [] within)

-- how many code points stand before a paragraph, in it and behind it
pub places-at : (kept : List (List ℕ)) (i : ℕ) → i < length kept
    → length (concat kept) ≡ length (concat (take i kept)) + (length (get_or kept i []) + length (concat (drop (i + 1) kept)))
places-at kept i within =
    ap length (concat-at kept i within) ∙ length-append (concat (take i kept)) (get_or kept i [] ++ concat (drop (i + 1) kept))
    ∙ ap (λ n. length (concat (take i kept)) + n) (length-append (get_or kept i []) (concat (drop (i + 1) kept)))

-- behind the last one stands nothing
pub places-last : (kept : List (List ℕ)) (i : ℕ) → i < length kept → length kept ≤ i + 1 → length (concat kept) ≡ length (concat (take i kept)) + length (get_or kept i [])
places-last kept i within last =
    let none = ap (λ t. length (concat t)) (drop_all (i + 1) kept last) in
    omega (arith, places-at kept i within, none)

pub places-more-at : (kept : List (List ℕ)) (i : ℕ) → i < length kept → length (concat (take (i + 1) kept)) ≡ length (concat (take i kept)) + length (get_or kept i [])
places-more-at kept i within =
    ap (λ t. length (concat t)) (take_more kept i [] within) ∙ ap length (concat-append (take i kept) (get_or kept i [] ∷ []))
    ∙ length-append (concat (take i kept)) (get_or kept i [] ++ []) ∙ ap (λ t. length (concat (take i kept)) + length t) (append-nil (get_or kept i []))

pub bytes-more-at : (kept : List (List ℕ)) (i : ℕ) → i < length kept → bytes_in (concat (take (i + 1) kept)) ≡ bytes_in (concat (take i kept)) + bytes_in (get_or kept i [])
bytes-more-at kept i within =
    ap (λ t. bytes_in (concat t)) (take_more kept i [] within) ∙ bytes-append (take i kept) (get_or kept i [] ∷ []) ∙ ap (λ n. bytes_in (concat (take i kept)) + n) (bytes-one (get_or kept i []))
