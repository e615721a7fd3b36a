-- Two plain characters make no cluster together.
use Rattle.std.proofs.Common.{◌≡◌, ℕ, ◌<◌, ◌≤◌, true, false, not, ◌||◌, ◌==◌, eqb-true, Some, List, [], ◌∷◌, map, length, take, drop, get_or, slice_index_or, sym, ap, ◌∙◌, refl, arith}
use Rattle.std.proofs.lemmas.Bool.Decides.{nat_tests}
use Rattle.ucd_table.proofs.Facts.{Stepped-below}
use Rattle.ucd_breaks.specs.GraphemeClusterBreak.{grapheme_cluster_break, grapheme_cluster_break_number}
use Rattle.ucd_breaks.specs.declared.GraphemeClusterBreak.TheVariants.{Other}
use Rattle.ucd_breaks.proofs.Computing.{ucd_breaks}
use Rattle.ucd_breaks.proofs.GraphemeClusterBreakLemmas.{grapheme_cluster_break_stepped, grapheme_cluster_break_number_injective}
use Rattle.std.specs.List.{slice_get}
use Rattle.unicode_segmentation.specs.Grapheme.{is_grapheme_break}
use Rattle.unicode_tables.specs.declared.word.Word.{Word}
use Rattle.unicode_segmentation.proofs.GraphemeLemmas.{is_grapheme_break-others}
use Rattle.paragraphs.specs.Clusters.{is_plain}

pub plain-early : (c : ℕ) → true ≡ is_plain c → c < 0x900
plain-early c h = grind (arith, nat_tests)

pub plain-other : (c : ℕ) → true ≡ is_plain c → Other ≡ grapheme_cluster_break c
unfolding ucd_breaks
plain-other c h =
    let test = Stepped-below grapheme_cluster_break grapheme_cluster_break_stepped
    (λ x v. not (is_plain x) || (grapheme_cluster_break_number Other == grapheme_cluster_break_number v)) 0x900 refl c (plain-early c h) in
    grapheme_cluster_break_number_injective _ _ (eqb-true _ _ (ap (λ b. not b || (grapheme_cluster_break_number Other == grapheme_cluster_break_number (grapheme_cluster_break c))) h ∙ test))

not-plain : {A : Type 0} → is_plain 0 ≡ true → A
not-plain h = absurd (let m : false ≡ true = h in cc)

-- GB999, between two of them
pub plain-two : (points : List ℕ) → is_plain (get_or points 0 0) ≡ true → is_plain (get_or points 1 0) ≡ true → is_grapheme_break true (take 1 points) (drop 1 points) ≡ true
plain-two [] plain next = not-plain plain
plain-two (c ∷ []) plain next = not-plain next
plain-two (c ∷ d ∷ rest) plain next =
    sym (is_grapheme_break-others true (c ∷ []) d rest (omega arith) (plain-early d (sym next)) (plain-other c (sym plain)) (plain-other d (sym next)))

-- where their words tell it
pub plain-part : (points : List ℕ) (words : List Word) (d e : Word) → map (λ (w : Word). w.is_plain) words ≡ map is_plain points → 2 ≤ length points
    → (slice_index_or words 0 d).is_plain ≡ true → (slice_index_or words 1 e).is_plain ≡ true → is_grapheme_break true (take 1 points) (drop 1 points) ≡ true
plain-part [] words d e same more plain next = absurd (omega arith)
plain-part (c ∷ []) words d e same more plain next = absurd (omega arith)
plain-part (c ∷ b ∷ rest) [] d e same more plain next = absurd (let n = ap length same in omega arith)
plain-part (c ∷ b ∷ rest) (w ∷ []) d e same more plain next = absurd (let n = ap length same in omega arith)
plain-part (c ∷ b ∷ rest) (w ∷ v ∷ words) d e same more plain next =
    let first : w.is_plain ≡ is_plain c = cc same in
    let second : v.is_plain ≡ is_plain b = cc same in
    plain-two (c ∷ b ∷ rest) (sym first ∙ plain) (sym second ∙ next)

-- GB2
pub last-parts : (points : List ℕ) → 0 < length points → length points < 2 → is_grapheme_break true (take 1 points) (drop 1 points) ≡ true
unfolding is_grapheme_break
last-parts [] some none = absurd (omega arith)
last-parts (c ∷ []) some none = refl
last-parts (c ∷ d ∷ rest) some none = absurd (omega arith)

-- a plain code point is there
pub plain-some : (points : List ℕ) → is_plain (get_or points 0 0) ≡ true → 0 < length points
plain-some [] plain = not-plain plain
plain-some (c ∷ points) plain = omega arith

pub plain-same : (points : List ℕ) (d : ℕ) → is_plain (get_or points 0 0) ≡ true → get_or points 0 d ≡ get_or points 0 0
plain-same [] d plain = not-plain plain
plain-same (c ∷ points) d plain = refl

pub plain-first : (points : List ℕ) → is_plain (get_or points 0 0) ≡ true → Some (get_or points 0 0) ≡ slice_get points 0
plain-first [] plain = not-plain plain
plain-first (c ∷ points) plain = refl
