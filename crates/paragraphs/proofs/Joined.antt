-- Marks join the character before them, and nothing plain behind them.
use Rattle.std.proofs.Common.{◌≡◌, ℕ, suc, ◌<◌, Bool, true, false, cond, not, ◌&&◌, ◌||◌, ◌==◌, ◌⊎◌, inl, inr, eqb-true, List, [], ◌∷◌, ◌++◌, map, length, get_or, unwrap_or, refl, sym, ap, ap₂, ◌∙◌, append-nil, arith}
use Rattle.std.proofs.lemmas.Bool.{and_right, not-true}
use Rattle.std.proofs.lemmas.Bool.Decides.{nat_tests}
use Rattle.std.specs.Prelude.{encode_utf8_all}
use Rattle.std.specs.Str.{chars}
use Rattle.ucd_table.proofs.Facts.{Stepped-below}
use Rattle.ucd_breaks.specs.GraphemeClusterBreak.{grapheme_cluster_break, grapheme_cluster_break_number}
use Rattle.ucd_breaks.specs.declared.GraphemeClusterBreak.TheVariants.{Extend, Other}
use Rattle.ucd_breaks.proofs.Computing.{ucd_breaks}
use Rattle.ucd_breaks.proofs.GraphemeClusterBreakLemmas.{grapheme_cluster_break_stepped, grapheme_cluster_break_number_injective}
use Rattle.ucd_derived.specs.IndicConjunctBreak.{indic_conjunct_break}
use Rattle.ucd_derived.proofs.Computing.{ucd_derived}
use Rattle.ucd_derived.proofs.IndicConjunctBreakLemmas.{indic_conjunct_break_stepped}
use Rattle.unicode_segmentation.specs.Grapheme.{break_by_pair, ends_in_linker, is_consonant, joins_conjunct, is_zwj, is_regional, joins_emoji, ends_in_half_flag, joins_flag, is_grapheme_break}
use Rattle.unicode_segmentation.specs.Segments.{prepend, cut, segments}
use Rattle.unicode_segmentation.proofs.GraphemeLemmas.{is_grapheme_break-inside, is_grapheme_break-others, joins_emoji-not_zwj}
use Rattle.paragraphs.specs.Clusters.{clusters, is_plain}
use Rattle.paragraphs.specs.Marked.{is_mark}
use Rattle.paragraphs.proofs.Afresh.{cut-boundary}
use Rattle.paragraphs.proofs.Plain.{plain-early, plain-other}

mark-early : (c : ℕ) → true ≡ is_mark c → c < 0x900
mark-early c h = grind (arith, nat_tests)

mark-extend : (c : ℕ) → true ≡ is_mark c → Extend ≡ grapheme_cluster_break c
unfolding ucd_breaks
mark-extend c h =
    let test = Stepped-below grapheme_cluster_break grapheme_cluster_break_stepped
    (λ x v. not (is_mark x) || (grapheme_cluster_break_number Extend == grapheme_cluster_break_number v)) 0x900 refl c (mark-early c h) in
    grapheme_cluster_break_number_injective _ _ (eqb-true _ _ (ap (λ b. not b || (grapheme_cluster_break_number Extend == grapheme_cluster_break_number (grapheme_cluster_break c))) h ∙ test))

-- a plain code point or a mark
abbrev pub IsJoined : ℕ → Type 0
IsJoined c = (Other ≡ grapheme_cluster_break c) ⊎ (Extend ≡ grapheme_cluster_break c)

pair-joined : (l m : ℕ) (rest : Bool) → (Other ≡ grapheme_cluster_break l) ⊎ (Extend ≡ grapheme_cluster_break l) → Extend ≡ grapheme_cluster_break m
    → unwrap_or (break_by_pair true (grapheme_cluster_break l) (grapheme_cluster_break m)) rest ≡ false
pair-joined l m rest (inl other) mark = ap₂ (λ x y. unwrap_or (break_by_pair true x y) rest) (sym other) (sym mark)
pair-joined l m rest (inr extend) mark = ap₂ (λ x y. unwrap_or (break_by_pair true x y) rest) (sym extend) (sym mark)

-- GB9
joined : (l m : ℕ) (before after : List ℕ) → IsJoined l → Extend ≡ grapheme_cluster_break m → is_grapheme_break true (l ∷ before) (m ∷ after) ≡ false
joined l m before after kind mark =
    is_grapheme_break-inside true (l ∷ before) m after (omega arith)
    ∙ pair-joined l m (not ((true && joins_conjunct (l ∷ before) m) || joins_emoji (l ∷ before) m || joins_flag (l ∷ before) m)) kind mark

early_consonant : (c : ℕ) → c < 0x900 → is_consonant (indic_conjunct_break c) ≡ false
unfolding ucd_derived
early_consonant c h = not-true _ (Stepped-below indic_conjunct_break indic_conjunct_break_stepped (λ _ v. not (is_consonant v)) 0x900 refl c h)

-- GB999, behind a mark
parted : (l p : ℕ) (before after : List ℕ) → Extend ≡ grapheme_cluster_break l → p < 0x900 → Other ≡ grapheme_cluster_break p
    → is_grapheme_break true (l ∷ before) (p ∷ after) ≡ true
parted l p before after left early right =
    let conjunct = and_right (ends_in_linker (map indic_conjunct_break (l ∷ before))) _ (early_consonant p early) in
    let emoji = joins_emoji-not_zwj (l ∷ before) p (ap is_zwj (sym left)) in
    let flag = and_right (ends_in_half_flag (l ∷ before)) _ (ap is_regional (sym right)) in
    let rest = not ((true && joins_conjunct (l ∷ before) p) || joins_emoji (l ∷ before) p || joins_flag (l ∷ before) p) in
    is_grapheme_break-inside true (l ∷ before) p after (omega arith)
    ∙ ap₂ (λ x y. unwrap_or (break_by_pair true x y) rest) (sym left) (sym right)
    ∙ ap not (ap₂ ◌||◌ (ap₂ ◌||◌ conjunct emoji) flag)

-- a plain code point behind them begins a cluster, and so does nothing at all
pub ends-before : (later : List ℕ) → (0 < length later → is_plain (get_or later 0 0) ≡ true) → (l : ℕ) (before : List ℕ) → IsJoined l
    → is_grapheme_break true (l ∷ before) later ≡ true
unfolding is_grapheme_break
ends-before [] plain l before kind = refl
ends-before (p ∷ later) plain l before kind =
    let k : true ≡ is_plain p = sym (plain (omega arith)) in
    elim kind [
      | inl other ↦ sym (is_grapheme_break-others true (l ∷ before) p later (omega arith) (plain-early p k) other (plain-other p k))
      | inr extend ↦ parted l p before later extend (plain-early p k) (plain-other p k)
    ]

-- these are marks
abbrev pub AreMarks : List ℕ → Type 0
AreMarks marks = (k : ℕ) → k < length marks → true ≡ is_mark (get_or marks k 0)

cut-marked : (before : List ℕ) (c : ℕ) (marks rest : List ℕ) → IsJoined c → AreMarks marks
    → ((l : ℕ) (b : List ℕ) → IsJoined l → is_grapheme_break true (l ∷ b) rest ≡ true)
    → cut (is_grapheme_break true) before (c ∷ (marks ++ rest)) [] ≡ (c ∷ marks) ∷ cut (is_grapheme_break true) [] rest []
unfolding cut
cut-marked before c [] rest kind each ends =
    ap₂ (λ b ps. cond b ((c ∷ []) ∷ ps) (prepend (c ∷ []) ps))
    (ap (is_grapheme_break true (c ∷ before)) (append-nil rest) ∙ ends c before kind)
    (cut-boundary (c ∷ before) rest (ends c before kind))
cut-marked before c (m ∷ marks) rest kind each ends =
    let mark = mark-extend m (each 0 (omega arith)) in
    ap₂ (λ b ps. cond b ((c ∷ []) ∷ ps) (prepend (c ∷ []) ps))
    (joined c m before ((marks ++ rest) ++ []) kind mark)
    (cut-marked (c ∷ before) m marks rest (inr mark) (λ k h. each (suc k) (omega arith)) ends)

-- a plain character and marks, behind which a cluster ends, are one
pub clusters-marked : (text rest : List ℕ) (c : ℕ) (marks : List ℕ) → chars text ≡ c ∷ (marks ++ chars rest) → true ≡ is_plain c → AreMarks marks
    → ((l : ℕ) (b : List ℕ) → IsJoined l → is_grapheme_break true (l ∷ b) (chars rest) ≡ true)
    → clusters text ≡ encode_utf8_all (c ∷ marks) ∷ clusters rest
unfolding segments
clusters-marked text rest c marks e plain each ends =
    ap (λ cs. map encode_utf8_all (cut (is_grapheme_break true) [] cs [])) e
    ∙ ap (map encode_utf8_all) (cut-marked [] c marks (chars rest) (inl (plain-other c plain)) each ends)
