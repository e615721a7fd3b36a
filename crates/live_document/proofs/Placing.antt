-- Where paragraphs stand in their text.
use Rattle.std.proofs.Common.{◌≡◌, ℕ, zero, suc, ◌+◌, ◌-◌, List, [], ◌∷◌, ◌++◌, length, map, take, drop, slice_range, Some, refl, ap, subst, ◌∙◌, arith, length-append}
use Rattle.std.proofs.lemmas.List.{take-map, drop-map, take_at, drop_at}
use Rattle.std.proofs.lemmas.List.Elements.{All-head, All-tail, All-take, All-drop}
use Rattle.std.proofs.lemmas.Option.{same_Some}
use Rattle.std.proofs.lemmas.Str.{encodes-append, encodes-chars}
use Rattle.std.specs.List.{All, concat}
use Rattle.std.specs.Prelude.{slice_get, encode_utf8_all}
use Rattle.std.specs.Str.{IsUtf8}
use Rattle.paragraphs.specs.Text.{code_points}
use Rattle.paragraphs.specs.Paragraphs.{Paragraph, ParagraphsFollow}
use Rattle.text_buffer.specs.Buffers.{bytes_in}

-- the code points of paragraphs
abbrev pub points_of : List Paragraph → List (List ℕ)
points_of qs = map (λ (q : Paragraph). code_points q.text) qs

pub bytes-both : (xs ys : List ℕ) → bytes_in (xs ++ ys) ≡ bytes_in xs + bytes_in ys
bytes-both xs ys = ap length (encodes-append xs ys) ∙ length-append (encode_utf8_all xs) (encode_utf8_all ys)

-- what holds of each of two parts
pub All-parts : {X : Type 0} (P : X → Type 0) (xs ys : List X) → All P (xs ++ ys) → All P xs × All P ys
All-parts P xs ys all = (
  subst (All P) (take_at xs ys (length xs) refl) (All-take P (length xs) (xs ++ ys) all),
  subst (All P) (drop_at xs ys (length xs) refl) (All-drop P (length xs) (xs ++ ys) all),
)

-- the images of a stretch
pub slice-map : {X Y : Type 0} (f : X → Y) (xs : List X) (i j : ℕ) → slice_range (map f xs) i j ≡ map f (slice_range xs i j)
slice-map f xs i j = ap (take (j - i)) (drop-map f i xs) ∙ take-map f (j - i) (drop i xs)

-- its bytes are text
abbrev pub IsText : Paragraph → Type 0
IsText q = IsUtf8 q.text

pub text-is : (q : Paragraph) → IsUtf8 q.text → encode_utf8_all (code_points q.text) ≡ q.text
text-is q u = encodes-chars q.text u

-- where one of them stands
pub place-at : (byte place : ℕ) (qs : List Paragraph) → All IsText qs → ParagraphsFollow byte place qs → (k : ℕ) (q : Paragraph) → slice_get qs k ≡ Some q
    → (q.first_byte ≡ byte + bytes_in (concat (take k (points_of qs)))) × (q.first_place ≡ place + length (concat (take k (points_of qs))))
place-at byte place [] u follow k q h = cc
place-at byte place (p ∷ qs) u follow zero q h =
    let same = same_Some p q h in
    let b = ap (λ (x : Paragraph). x.first_byte) same in
    let n = ap (λ (x : Paragraph). x.first_place) same in
    let f = follow.0 in
    let g = follow.1 in
    (omega arith, omega arith)
place-at byte place (p ∷ qs) u follow (suc k) q h =
    let later = place-at (byte + length p.text) (place + length (code_points p.text)) qs (All-tail IsText p qs u) follow.2 k q h in
    let b = later.0 in
    let n = later.1 in
    let size = ap length (text-is p (All-head IsText p qs u)) in
    let bytes = bytes-both (code_points p.text) (concat (take k (points_of qs))) in
    let places = length-append (code_points p.text) (concat (take k (points_of qs))) in
    (omega arith, omega arith)

-- those from one of them on follow one another too
pub follow-drop : (byte place : ℕ) (qs : List Paragraph) → All IsText qs → ParagraphsFollow byte place qs → (k : ℕ)
    → ParagraphsFollow (byte + bytes_in (concat (take k (points_of qs)))) (place + length (concat (take k (points_of qs)))) (drop k qs)
follow-drop byte place qs u follow zero =
    let b : byte ≡ byte + bytes_in [] = omega arith in
    let n : place ≡ place + 0 = omega arith in
    subst (λ m. ParagraphsFollow m (place + 0) qs) b (subst (λ m. ParagraphsFollow byte m qs) n follow)
follow-drop byte place [] u follow (suc k) = tt
follow-drop byte place (p ∷ qs) u follow (suc k) =
    let later = follow-drop (byte + length p.text) (place + length (code_points p.text)) qs (All-tail IsText p qs u) follow.2 k in
    let size = ap length (text-is p (All-head IsText p qs u)) in
    let bytes = bytes-both (code_points p.text) (concat (take k (points_of qs))) in
    let places = length-append (code_points p.text) (concat (take k (points_of qs))) in
    let b : (byte + length p.text) + bytes_in (concat (take k (points_of qs))) ≡ byte + bytes_in (code_points p.text ++ concat (take k (points_of qs))) = omega arith in
    let n : (place + length (code_points p.text)) + length (concat (take k (points_of qs))) ≡ place + length (code_points p.text ++ concat (take k (points_of qs))) = omega arith in
    subst (λ m. ParagraphsFollow m (place + length (code_points p.text ++ concat (take k (points_of qs)))) (drop k qs)) b
    (subst (λ m. ParagraphsFollow ((byte + length p.text) + bytes_in (concat (take k (points_of qs)))) m (drop k qs)) n later)

pub follow-take : (byte place : ℕ) (qs : List Paragraph) (n : ℕ) → ParagraphsFollow byte place qs → ParagraphsFollow byte place (take n qs)
follow-take byte place qs zero follow = tt
follow-take byte place [] (suc n) follow = tt
follow-take byte place (p ∷ qs) (suc n) follow = (follow.0, follow.1, follow-take (byte + length p.text) (place + length (code_points p.text)) qs n follow.2)
