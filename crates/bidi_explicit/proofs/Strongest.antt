-- One scan that counts isolates finds the first strong character outside them.
use Rattle.std.proofs.Common.{ℕ, zero, suc, ◌≡◌, ◌≤◌, ◌+◌, ◌-◌, refl, ap, sym, ◌∙◌, List, [], ◌∷◌, ◌++◌, length, map, Option, Some, None, arith}
use Rattle.std.specs.Prelude.{encode_utf8, encode_utf8_all as encodes}
use Rattle.std.specs.Str.{IsUtf8}
use Rattle.std.proofs.lemmas.Str.{chars-nil, chars_past_char, IsUtf8-past_char, length-le-encodes}
use Rattle.std.proofs.lemmas.List.{nil_from_length, length-append}
use Rattle.bg_types.specs.declared.class.Bidi.{Bidi}
use Rattle.bg_types.specs.declared.class.Bidi.TheVariants.{L, R, Al, Lri, Rli, Fsi, Pdi}
use Rattle.unicode_tables.specs.Tables.{TableValues, bidi_of}
use Rattle.paragraphs.specs.Text.{code_points}
use Rattle.bidi_explicit.specs.Nesting.{Nodes, end, isolate, unclosed, nest, split_at_pdi, base, enclose}
use Rattle.bidi_explicit.specs.Strong.{strong_level, depth_behind}
use Rattle.bidi_explicit.specs.Embedding.{classes_of}
use Rattle.bidi_explicit.proofs.Matching.{behind_isolate, behind_char}

abbrev pub scan : ℕ → List Bidi → ℕ
scan d [] = 0
scan zero (c ∷ cs) = elim (strong_level c) [ Some l ↦ l | None ↦ scan (depth_behind 0 c) cs ]
scan (suc d) (c ∷ cs) = scan (depth_behind (suc d) c) cs

-- the nodes after d unmatched PDIs
abbrev skip : ℕ → Nodes → Nodes
skip zero ns = ns
skip (suc d) ns = elim (split_at_pdi ns) [ Some p ↦ skip d p.1 | None ↦ end ]

skip-end : (d : ℕ) → base (skip d end) ≡ 0
skip-end zero = refl
skip-end (suc d) = refl

skip-unclosed : (d : ℕ) (i : Bidi) (held : Nodes) → base (skip d (unclosed i held)) ≡ 0
skip-unclosed zero i held = refl
skip-unclosed (suc d) i held = refl

abbrev second : ℕ → Option (Nodes × Nodes) → Nodes
second d o = elim o [ Some p ↦ skip d p.1 | None ↦ end ]

second-isolate : (d : ℕ) (i : Bidi) (held : Nodes) (o : Option (Nodes × Nodes)) → base (second d (behind_isolate i held o)) ≡ base (second d o)
second-isolate d i held (Some p) = refl
second-isolate d i held None = refl

second-char : (d : ℕ) (c : Bidi) (o : Option (Nodes × Nodes)) → base (second d o) ≡ base (second d (behind_char c o))
second-char d c (Some p) = refl
second-char d c None = refl

skip-isolate : (d : ℕ) (i : Bidi) (held rest : Nodes) → base (skip d (isolate i held rest)) ≡ base (skip d rest)
skip-isolate zero i held rest = refl
skip-isolate (suc d) i held rest = second-isolate d i held (split_at_pdi rest)

-- with a count of one more, an initiator is passed
skip-enclose : (d : ℕ) (i : Bidi) (ns : Nodes) → base (skip (suc d) ns) ≡ base (skip d (enclose i ns))
skip-enclose d i ns =
    elim (split_at_pdi ns) as (λ o. base (elim o [ Some p ↦ skip d p.1 | None ↦ end ])
    ≡ base (skip d (elim o [ Some p ↦ isolate i p.0 p.1 | None ↦ unclosed i ns ])))
    [ Some p ↦ sym (skip-isolate d i p.0 p.1) | None ↦ sym (skip-unclosed d i ns) ]

at_depth : (d e : ℕ) (cs : List Bidi) → d ≡ e → scan d cs ≡ scan e cs
at_depth d e cs same = ap (λ n. scan n cs) same

pub scan-is : (d : ℕ) (cs : List Bidi) → scan d cs ≡ base (skip d (nest cs))
scan-is d [] = sym (skip-end d)
scan-is zero (Lri ∷ cs) = scan-is 1 cs ∙ skip-enclose 0 Lri (nest cs)
scan-is zero (Rli ∷ cs) = scan-is 1 cs ∙ skip-enclose 0 Rli (nest cs)
scan-is zero (Fsi ∷ cs) = scan-is 1 cs ∙ skip-enclose 0 Fsi (nest cs)
scan-is zero (Pdi ∷ cs) = scan-is 0 cs
scan-is zero (L ∷ cs) = refl
scan-is zero (R ∷ cs) = refl
scan-is zero (Al ∷ cs) = refl
scan-is zero (c ∷ cs) = scan-is 0 cs
scan-is (suc d) (Lri ∷ cs) = at_depth (suc d + 1) (suc (suc d)) cs (omega arith) ∙ scan-is (suc (suc d)) cs ∙ skip-enclose (suc d) Lri (nest cs)
scan-is (suc d) (Rli ∷ cs) = at_depth (suc d + 1) (suc (suc d)) cs (omega arith) ∙ scan-is (suc (suc d)) cs ∙ skip-enclose (suc d) Rli (nest cs)
scan-is (suc d) (Fsi ∷ cs) = at_depth (suc d + 1) (suc (suc d)) cs (omega arith) ∙ scan-is (suc (suc d)) cs ∙ skip-enclose (suc d) Fsi (nest cs)
scan-is (suc d) (Pdi ∷ cs) = at_depth (suc d - 1) d cs (omega arith) ∙ scan-is d cs
scan-is (suc d) (c ∷ cs) = scan-is (suc d) cs ∙ second-char d c (split_at_pdi (nest cs))

-- the scan has come to `rest` with this depth
pub record IsScanned (tables : TableValues) (text rest : List ℕ) (depth : ℕ) : Type 0 where
  pub utf8 : IsUtf8 rest
  pub few : depth + length rest ≤ length text
  pub same : scan depth (classes_of tables rest) ≡ base (nest (classes_of tables text))

pub IsScanned-start : (tables : TableValues) (text : List ℕ) → IsUtf8 text → IsScanned tables text text 0
IsScanned-start tables text u = record { utf8 = u; few = omega arith; same = scan-is 0 (classes_of tables text) }

pub IsScanned-end : (tables : TableValues) (text rest : List ℕ) (depth : ℕ) → length rest ≡ 0 → IsScanned tables text rest depth →
    0 ≡ base (nest (classes_of tables text))
IsScanned-end tables text rest depth none s =
    let nil : code_points rest ≡ [] = ap code_points (nil_from_length rest none) ∙ chars-nil in
    ap (λ cs. scan depth (map (bidi_of tables) cs)) (sym nil) ∙ s.same

scan-strong : (c : Bidi) (cs : List Bidi) (l : ℕ) → strong_level c ≡ Some l → scan 0 (c ∷ cs) ≡ l
scan-strong c cs l e = rw (e, scan) refl

scan-step : (depth : ℕ) (c : Bidi) (cs : List Bidi) → (depth ≡ 0 → strong_level c ≡ None) → scan depth (c ∷ cs) ≡ scan (depth_behind depth c) cs
scan-step zero c cs weak = rw (weak refl, scan) refl
scan-step (suc d) c cs weak = refl

module _ (tables : TableValues) (text rest : List ℕ) (depth : ℕ) (s : IsScanned tables text rest depth)
    (c : ℕ) (after : List ℕ) (e : rest ≡ encode_utf8 c ++ after) where
  head : classes_of tables rest ≡ bidi_of tables c ∷ classes_of tables after
  head = ap (map (bidi_of tables)) (chars_past_char rest after c s.utf8 e)

  pub IsScanned-strong : (l : ℕ) → depth ≡ 0 → strong_level (bidi_of tables c) ≡ Some l → l ≡ base (nest (classes_of tables text))
  IsScanned-strong l none strong =
      sym (scan-strong (bidi_of tables c) (classes_of tables after) l strong)
      ∙ ap (λ cs. scan 0 cs) (sym head)
      ∙ ap (λ d. scan d (classes_of tables rest)) (sym none) ∙ s.same

  takes_byte : suc (length after) ≤ length rest
  takes_byte =
      let n = length-le-encodes (c ∷ []) in
      let m : length (encodes (c ∷ [])) ≡ length (encode_utf8 c) + 0 = length-append (encode_utf8 c) [] in
      let k : length rest ≡ length (encode_utf8 c) + length after = ap length e ∙ length-append (encode_utf8 c) after in
      omega arith

  depth-le : (class : Bidi) → depth_behind depth class ≤ depth + 1
  depth-le Lri = omega arith
  depth-le Rli = omega arith
  depth-le Fsi = omega arith
  depth-le Pdi = omega arith
  depth-le _ = omega arith

  pub IsScanned-on : (d : ℕ) → d ≡ depth_behind depth (bidi_of tables c) →
      (depth ≡ 0 → strong_level (bidi_of tables c) ≡ None) → IsScanned tables text after d
  IsScanned-on d behind weak = record {
    utf8 = IsUtf8-past_char rest after c s.utf8 e;
    few = (let t = takes_byte in let f = s.few in let n = depth-le (bidi_of tables c) in omega arith);
    same = ap (λ k. scan k (classes_of tables after)) behind
        ∙ sym (scan-step depth (bidi_of tables c) (classes_of tables after) weak)
        ∙ ap (λ cs. scan depth cs) (sym head) ∙ s.same;
  }
