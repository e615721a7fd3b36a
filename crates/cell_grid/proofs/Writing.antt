-- What is written piece by piece.
use Rattle.std.proofs.Common.{◌≡◌, ℕ, ◌+◌, ◌<◌, ◌≤◌, List, [], ◌∷◌, ◌++◌, length, take, drop, get_or, map, map-id, take-append-drop, encode_utf8, encode_utf8_all, Option, Result, Ok, Err, OnErr, OnOk, flat_map, refl, sym, ap, subst, ◌∙◌, arith, append_assoc, append-nil, inl, inr, ◌%◌, ◌==◌, chars}
use Rattle.std.proofs.KnownBytes.{Appends-trans}
use Rattle.std.proofs.Math.Seq.{take-append-add}
use Rattle.std.proofs.lemmas.List.{take-append-le}
use Rattle.std.proofs.lemmas.Bool.Decides.{leb_tells}
use Rattle.std.specs.Io.KnownBytes.{Appends}
use Rattle.bg_types.specs.Sink.{AppendsBeginning}
use Rattle.std.proofs.lemmas.List.{map-append}
use Rattle.std.proofs.lemmas.Str.{encodes-append, encodes-chars}
use Rattle.std.specs.Prelude.{if◌then◌else◌, unwrap_or}
use Rattle.std.specs.Str.{IsUtf8}
use Rattle.unicode_tables.specs.Tables.{TableValues, mirror_of}
use Rattle.paragraphs.specs.Text.{code_points}
use Rattle.cell_grid.specs.Print.{mirrored_text}
use Rattle.cell_grid.proofs.Steps.{take-whole, drop-next, flat_map-take_next, flat_map-split_at}

-- what holds of any fault
pub on_err : {A E P : Type 0} (r : Result A E) → P → OnErr r P
on_err (Ok v) h = tt
on_err (Err e) h = h

-- one more piece
pub Appends-on : (old mid new : Option (List ℕ)) (done piece more : List ℕ) → Appends old mid done → Appends mid new piece → more ≡ done ++ piece → Appends old new more
Appends-on old mid new done piece more a b e = subst (Appends old new) (sym e) (Appends-trans old mid new done piece a b)

short : (n : ℕ) (piece : List ℕ) → (m : ℕ) × (m ≤ length piece) × (take n piece ≡ take m piece)
short n piece = elim (leb_tells n (length piece)) [
  | inl fits ↦ (n, fits.1, refl)
  | inr over ↦ let le = over.1 in (length piece, omega arith, take-whole piece n (omega arith) ∙ sym (take-whole piece (length piece) (omega arith)))
]

-- a beginning of one more piece
pub Begins-on : (old mid new : Option (List ℕ)) (done piece rest whole : List ℕ) → Appends old mid done → AppendsBeginning mid new piece → whole ≡ done ++ (piece ++ rest)
    → AppendsBeginning old new whole
Begins-on old mid new done piece rest whole a b e =
    let cut = short b.0 piece in
    let is : take (length done + cut.0) whole ≡ done ++ take b.0 piece =
    ap (take (length done + cut.0)) e ∙ take-append-add done (piece ++ rest) cut.0
    ∙ ap (λ t. done ++ t) (take-append-le cut.0 piece rest cut.1 ∙ sym cut.2) in
    (length done + cut.0, Appends-on old mid new done (take b.0 piece) (take (length done + cut.0) whole) a b.1 is)

-- ---- code points as they are shown

module _ (f : ℕ → ℕ) where
  abbrev pub shown : List ℕ → List ℕ
  shown points = encode_utf8_all (map f points)

  -- one more
  pub shown-on : (points : List ℕ) (c : ℕ) → shown (points ++ c ∷ []) ≡ shown points ++ encode_utf8 (f c)
  shown-on points c =
      ap encode_utf8_all (map-append f points (c ∷ [])) ∙ encodes-append (map f points) (f c ∷ [])
      ∙ ap (λ t. shown points ++ t) (append-nil (encode_utf8 (f c)))

  pub shown-split : (all points : List ℕ) (c : ℕ) → map (λ x. x) points ≡ take (length points) all → length points < length all → c ≡ get_or all (length points) c
      → shown all ≡ shown points ++ (encode_utf8 (f c) ++ shown (drop (length points + 1) all))
  shown-split all points c so_far lt is =
      let whole : all ≡ points ++ c ∷ drop (length points + 1) all =
      sym (take-append-drop (length points) all)
      ∙ ap (λ t. t ++ drop (length points) all) (sym so_far ∙ map-id points)
      ∙ ap (λ t. points ++ t) (drop-next all (length points) c c lt is) in
      ap shown whole
      ∙ ap encode_utf8_all (map-append f points (c ∷ drop (length points + 1) all))
      ∙ encodes-append (map f points) (f c ∷ map f (drop (length points + 1) all))

-- at an even level nothing is mirrored
pub even-text : (tables : TableValues) (level : ℕ) (bytes : List ℕ) → level % 2 ≡ 0 → IsUtf8 bytes → mirrored_text tables level (code_points bytes) ≡ bytes
even-text tables level bytes even u =
    ap (λ n. encode_utf8_all (map (λ c. if n == 1 then unwrap_or (mirror_of tables c) c else c) (chars bytes))) even
    ∙ ap encode_utf8_all (map-id (chars bytes)) ∙ encodes-chars bytes u

-- ---- lists of pieces

-- what holds of a fault by what a callee says of it
pub on_err_by : {A E P Q : Type 0} (r : Result A E) → (P → Q) → OnErr r P → OnErr r Q
on_err_by (Ok v) f h = tt
on_err_by (Err e) f h = f h

pub on_ok_by : {A E P Q : Type 0} (r : Result A E) → (P → Q) → OnOk r P → OnOk r Q
on_ok_by (Ok v) f h = f h
on_ok_by (Err e) f h = tt

module _ {X : Type 0} (f : X → List ℕ) (xs : List X) (i : ℕ) (x d : X) (lt : i < length xs) (is : x ≡ get_or xs i d) where
  pub pieces-on : (old mid new : Option (List ℕ)) → Appends old mid (flat_map f (take i xs)) → Appends mid new (f x) → Appends old new (flat_map f (take (i + 1) xs))
  pieces-on old mid new a b = Appends-on old mid new (flat_map f (take i xs)) (f x) (flat_map f (take (i + 1) xs)) a b (flat_map-take_next f xs i x d lt is)

  pub pieces-cut : (old mid new : Option (List ℕ)) (end : List ℕ) → Appends old mid (flat_map f (take i xs)) → AppendsBeginning mid new (f x) → AppendsBeginning old new (flat_map f xs ++ end)
  pieces-cut old mid new end a b =
      Begins-on old mid new (flat_map f (take i xs)) (f x) (flat_map f (drop (i + 1) xs) ++ end) (flat_map f xs ++ end) a b
      (ap (λ t. t ++ end) (flat_map-split_at f xs i x d lt is)
      ∙ append_assoc (flat_map f (take i xs)) (f x ++ flat_map f (drop (i + 1) xs)) end
      ∙ ap (λ t. flat_map f (take i xs) ++ t) (append_assoc (f x) (flat_map f (drop (i + 1) xs)) end))

  pub pieces-cut_last : (old mid new : Option (List ℕ)) → Appends old mid (flat_map f (take i xs)) → AppendsBeginning mid new (f x) → AppendsBeginning old new (flat_map f xs)
  pieces-cut_last old mid new a b = subst (AppendsBeginning old new) (append-nil (flat_map f xs)) (pieces-cut old mid new [] a b)

-- what all pieces are, and a last one
pub pieces-all : {X : Type 0} (f : X → List ℕ) (xs : List X) (i : ℕ) → length xs ≤ i → flat_map f (take i xs) ≡ flat_map f xs
pieces-all f xs i le = ap (flat_map f) (take-whole xs i le)
