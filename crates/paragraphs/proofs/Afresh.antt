-- After a boundary clusters are cut as at a text's start.
use Rattle.std.proofs.Common.{◌≡◌, ℕ, Bool, true, false, cond, not, ◌&&◌, ◌||◌, List, [], ◌∷◌, ◌++◌, map, length, drop, get_or, unwrap_or, refl, sym, ap, ap₂, ◌∙◌, arith}
use Rattle.std.proofs.lemmas.List.{append-nil, drop_at}
use Rattle.std.proofs.lemmas.Str.{encodes-append, encodes-chars, chars_from_encodes}
use Rattle.std.specs.Prelude.{encode_utf8_all}
use Rattle.std.specs.Str.{chars, IsUtf8}
use Rattle.ucd_table.proofs.Facts.{Stepped-everywhere}
use Rattle.ucd_table.proofs.Stepped.{zip_stepped}
use Rattle.ucd_breaks.specs.GraphemeClusterBreak.{grapheme_cluster_break}
use Rattle.ucd_breaks.specs.declared.GraphemeClusterBreak.{GraphemeClusterBreak}
use Rattle.ucd_breaks.specs.declared.GraphemeClusterBreak.TheVariants.{Control, Cr, Lf, Extend, Zwj}
use Rattle.ucd_breaks.proofs.Computing.{ucd_breaks}
use Rattle.ucd_breaks.proofs.GraphemeClusterBreakLemmas.{grapheme_cluster_break_stepped}
use Rattle.ucd_derived.specs.IndicConjunctBreak.{indic_conjunct_break}
use Rattle.ucd_derived.specs.declared.IndicConjunctBreak.{IndicConjunctBreak}
use Rattle.ucd_derived.specs.declared.IndicConjunctBreak.TheVariants as InCb
use Rattle.ucd_derived.proofs.Computing.{ucd_derived}
use Rattle.ucd_derived.proofs.IndicConjunctBreakLemmas.{indic_conjunct_break_stepped}
use Rattle.ucd_emoji.specs.Binary.{is_extended_pictographic}
use Rattle.ucd_emoji.proofs.BinaryLemmas.{is_extended_pictographic_stepped}
use Rattle.ucd_emoji.proofs.Computing.{ucd_emoji}
use Rattle.unicode_segmentation.specs.Grapheme.{break_by_pair, ends_in_linker, is_consonant, is_extend, is_zwj, is_regional, ends_in_pictograph, joins_emoji, ends_in_half_flag, is_grapheme_break}
use Rattle.unicode_segmentation.specs.Segments.{prepend, cut, segments}
use Rattle.unicode_segmentation.proofs.GraphemeLemmas.{is_grapheme_break-inside}
use Rattle.unicode_segmentation.proofs.CursorLemmas.{break_between_regionals}
use Rattle.paragraphs.specs.Clusters.{clusters}
use Rattle.bg_types.proofs.Interface.{two_cases}

-- what joins the character before it, whatever this is, unless it ends all
abbrev joins : GraphemeClusterBreak → Bool
joins g = is_extend g || is_zwj g

abbrev ends_all : GraphemeClusterBreak → Bool
ends_all Control = true
ends_all Cr = true
ends_all Lf = true
ends_all _ = false

-- what GB9c looks back for or over
abbrev links : IndicConjunctBreak → Bool
links InCb.Linker = true
links InCb.Extend = true
links _ = false

abbrev passes : IndicConjunctBreak → Bool
passes InCb.Extend = true
passes _ = false

-- what GB9c looks back over joins, and what it or GB11 looks back for doesn't end all
abbrev apart : GraphemeClusterBreak → IndicConjunctBreak → Bool → Bool
apart g i pictograph = (not (passes i) || joins g) && not ((pictograph || links i) && ends_all g)

kinds_apart : (c : ℕ) → apart (grapheme_cluster_break c) (indic_conjunct_break c) (is_extended_pictographic c) ≡ true
unfolding ucd_breaks ucd_derived ucd_emoji
kinds_apart =
    let partly = λ (g : GraphemeClusterBreak) (i : IndicConjunctBreak). apart g i in
    let tests = zip_stepped partly grapheme_cluster_break indic_conjunct_break grapheme_cluster_break_stepped indic_conjunct_break_stepped in
    Stepped-everywhere _ (zip_stepped (λ test e. test e) _ is_extended_pictographic tests is_extended_pictographic_stepped) refl

passing : (x j r : Bool) → ((not x || j) && r) ≡ true → x ≡ true → j ≡ true
passing true true r a h = refl
passing true false r a h = absurd (let k : false ≡ true = a in cc)
passing false j r a h = absurd (let k : false ≡ true = h in cc)

ended : (q l p e : Bool) → (q && not ((p || l) && e)) ≡ true → e ≡ true → (l ≡ false) × (p ≡ false)
ended q l p false a h = absurd (let m : false ≡ true = h in cc)
ended false l p true a h = absurd (let m : false ≡ true = a in cc)
ended true l true true a h = absurd (let m : false ≡ true = a in cc)
ended true true false true a h = absurd (let m : false ≡ true = a in cc)
ended true false false true a h = (refl, refl)

ended_joins : (g : GraphemeClusterBreak) → ends_all g ≡ true → joins g ≡ false
ended_joins Control h = refl
ended_joins Cr h = refl
ended_joins Lf h = refl
ended_joins _ h = absurd (let m : false ≡ true = h in cc)

joined_extend : (g : GraphemeClusterBreak) → is_extend g ≡ true → joins g ≡ true
joined_extend Extend h = refl
joined_extend _ h = absurd (let m : false ≡ true = h in cc)

joined_zwj : (g : GraphemeClusterBreak) → is_zwj g ≡ true → joins g ≡ true
joined_zwj Zwj h = refl
joined_zwj _ h = absurd (let m : false ≡ true = h in cc)

-- before what joins only what ends all ends a cluster
pair_ends : (l r : GraphemeClusterBreak) (other : Bool) → joins r ≡ true → unwrap_or (break_by_pair true l r) other ≡ true → ends_all l ≡ true
pair_ends Control r other j h = refl
pair_ends Cr r other j h = refl
pair_ends Lf r other j h = refl
pair_ends _ Extend other j h = absurd (let m : false ≡ true = h in cc)
pair_ends _ Zwj other j h = absurd (let m : false ≡ true = h in cc)
pair_ends _ _ other j h = absurd (let m : false ≡ true = j in cc)

no_linker : (v : IndicConjunctBreak) (vs : List IndicConjunctBreak) → links v ≡ false → ends_in_linker (v ∷ vs) ≡ false
unfolding ends_in_linker
no_linker InCb.Linker vs h = absurd (let m : true ≡ false = h in cc)
no_linker InCb.Extend vs h = absurd (let m : true ≡ false = h in cc)
no_linker _ vs h = refl

not-true : (b : Bool) → not b ≡ true → b ≡ false
not-true true h = absurd (let m : false ≡ true = h in cc)
not-true false h = refl

-- what a boundary between b and f tells of the text before it
module _ (b : ℕ) (bs : List ℕ) (f : ℕ) (later : List ℕ) (broken : is_grapheme_break true (b ∷ bs) (f ∷ later) ≡ true) where
  ends_before : joins (grapheme_cluster_break f) ≡ true → ends_all (grapheme_cluster_break b) ≡ true
  ends_before j = pair_ends _ _ _ j (sym (is_grapheme_break-inside true (b ∷ bs) f later (omega arith)) ∙ broken)

  neither_before : joins (grapheme_cluster_break f) ≡ true → (links (indic_conjunct_break b) ≡ false) × (is_extended_pictographic b ≡ false)
  neither_before j =
      let g = grapheme_cluster_break b in
      let i = indic_conjunct_break b in
      ended (not (passes i) || joins g) (links i) (is_extended_pictographic b) (ends_all g) (kinds_apart b) (ends_before j)

  linker_before : passes (indic_conjunct_break f) ≡ true → ends_in_linker (map indic_conjunct_break (b ∷ bs)) ≡ false
  linker_before x =
      let g = grapheme_cluster_break f in
      let i = indic_conjunct_break f in
      let joined = passing (passes i) (joins g) (not ((is_extended_pictographic f || links i) && ends_all g)) (kinds_apart f) x in
      no_linker (indic_conjunct_break b) (map indic_conjunct_break bs) (neither_before joined).0

  pictograph_before : joins (grapheme_cluster_break f) ≡ true → ends_in_pictograph (b ∷ bs) ≡ false
  unfolding ends_in_pictograph
  pictograph_before j =
      let no_extend : is_extend (grapheme_cluster_break b) ≡ false =
      two_cases (is_extend (grapheme_cluster_break b))
      (λ x. absurd (let m : true ≡ false = sym (joined_extend _ x) ∙ ended_joins _ (ends_before j) in cc)) (λ x. x) in
      ap₂ (λ p x. p || (x && ends_in_pictograph bs)) (neither_before j).1 no_extend

  flag_before : is_regional (grapheme_cluster_break f) ≡ true → ends_in_half_flag (b ∷ bs) ≡ false
  unfolding ends_in_half_flag
  flag_before r =
      two_cases (is_regional (grapheme_cluster_break b))
      (λ l. not-true _ (sym (break_between_regionals true (b ∷ bs) f later (omega arith) l r) ∙ broken))
      (λ l. ap (λ x. x && not (ends_in_half_flag bs)) l)

-- whether the rules that look back from after `front` see nothing of `context`, which stands before it
record IsAfresh (context front : List ℕ) : Type 0 where
  linker : ends_in_linker (map indic_conjunct_break (front ++ context)) ≡ ends_in_linker (map indic_conjunct_break front)
  flag : ends_in_half_flag (front ++ context) ≡ ends_in_half_flag front
  pictograph : ends_in_pictograph (front ++ context) ≡ ends_in_pictograph front
  emoji : (next : ℕ) → joins_emoji (front ++ context) next ≡ joins_emoji front next

linker-first : (v : IndicConjunctBreak) (vs : List IndicConjunctBreak) → (passes v ≡ true → ends_in_linker vs ≡ false) → ends_in_linker (v ∷ vs) ≡ ends_in_linker (v ∷ [])
unfolding ends_in_linker
linker-first InCb.Linker vs h = refl
linker-first InCb.Extend vs h = h refl
linker-first _ vs h = refl

linker-next : (v : IndicConjunctBreak) (vs ws : List IndicConjunctBreak) → ends_in_linker vs ≡ ends_in_linker ws → ends_in_linker (v ∷ vs) ≡ ends_in_linker (v ∷ ws)
unfolding ends_in_linker
linker-next InCb.Linker vs ws h = refl
linker-next InCb.Extend vs ws h = h
linker-next _ vs ws h = refl

flag-first : (r e : Bool) → (r ≡ true → e ≡ false) → (r && not e) ≡ (r && true)
flag-first true e h = ap not (h refl)
flag-first false e h = refl

pictograph-first : (p x e : Bool) → (x ≡ true → e ≡ false) → (p || (x && e)) ≡ (p || (x && false))
pictograph-first p true e h = ap (λ t. p || t) (h refl)
pictograph-first p false e h = refl

emoji-first : (z e n : Bool) → (z ≡ true → e ≡ false) → (z && e && n) ≡ (z && false && n)
emoji-first true e n h = ap (λ t. t && n) (h refl)
emoji-first false e n h = refl

IsAfresh-first : (b : ℕ) (bs : List ℕ) (f : ℕ) (later : List ℕ) → is_grapheme_break true (b ∷ bs) (f ∷ later) ≡ true → IsAfresh (b ∷ bs) (f ∷ [])
unfolding ends_in_half_flag ends_in_pictograph
IsAfresh-first b bs f later broken =
    let g = grapheme_cluster_break f in
    record {
      linker = linker-first (indic_conjunct_break f) (map indic_conjunct_break (b ∷ bs)) (linker_before b bs f later broken);
      flag = flag-first (is_regional g) (ends_in_half_flag (b ∷ bs)) (flag_before b bs f later broken);
      pictograph = pictograph-first (is_extended_pictographic f) (is_extend g) (ends_in_pictograph (b ∷ bs)) (λ x. pictograph_before b bs f later broken (joined_extend g x));
      emoji = λ next. emoji-first (is_zwj g) (ends_in_pictograph (b ∷ bs)) (is_extended_pictographic next) (λ z. pictograph_before b bs f later broken (joined_zwj g z));
    }

module _ (context front : List ℕ) (fresh : IsAfresh context front) where
  IsAfresh-next : (c : ℕ) → IsAfresh context (c ∷ front)
  unfolding ends_in_half_flag ends_in_pictograph
  IsAfresh-next c =
      let g = grapheme_cluster_break c in
      record {
        linker = linker-next (indic_conjunct_break c) _ _ fresh.linker;
        flag = ap (λ t. is_regional g && not t) fresh.flag;
        pictograph = ap (λ t. is_extended_pictographic c || (is_extend g && t)) fresh.pictograph;
        emoji = λ next. ap (λ t. is_zwj g && t && is_extended_pictographic next) fresh.pictograph;
      }

rule-afresh : (context : List ℕ) (x : ℕ) (front later : List ℕ) → IsAfresh context (x ∷ front)
    → is_grapheme_break true (x ∷ (front ++ context)) later ≡ is_grapheme_break true (x ∷ front) later
unfolding is_grapheme_break
rule-afresh context x front [] fresh = refl
rule-afresh context x front (next ∷ later) fresh =
    let pair = break_by_pair true (grapheme_cluster_break x) (grapheme_cluster_break next) in
    let whole = λ (l e h : Bool). unwrap_or pair (not ((true && (l && is_consonant (indic_conjunct_break next))) || e || (h && is_regional (grapheme_cluster_break next)))) in
    ap (λ l. whole l (joins_emoji (x ∷ (front ++ context)) next) (ends_in_half_flag (x ∷ (front ++ context)))) fresh.linker
    ∙ ap₂ (λ e h. whole (ends_in_linker (map indic_conjunct_break (x ∷ front))) e h) (fresh.emoji next) fresh.flag

abbrev attach : Bool → ℕ → List (List ℕ) → List (List ℕ)
attach broken c pieces = cond broken ((c ∷ []) ∷ pieces) (prepend (c ∷ []) pieces)

cut-afresh : (context : List ℕ) (x : ℕ) (front cs : List ℕ) → IsAfresh context (x ∷ front)
    → cut (is_grapheme_break true) (x ∷ (front ++ context)) cs [] ≡ cut (is_grapheme_break true) (x ∷ front) cs []
unfolding cut
cut-afresh context x front [] fresh = refl
cut-afresh context x front (c ∷ cs) fresh =
    let next = IsAfresh-next context (x ∷ front) fresh c in
    ap₂ (λ b ps. attach b c ps) (rule-afresh context c (x ∷ front) (cs ++ []) next) (cut-afresh context c (x ∷ front) cs next)

-- after a boundary nothing before it counts
pub cut-boundary : (before cs : List ℕ) → is_grapheme_break true before cs ≡ true → cut (is_grapheme_break true) before cs [] ≡ cut (is_grapheme_break true) [] cs []
unfolding cut
cut-boundary before [] broken = refl
cut-boundary [] (c ∷ cs) broken = refl
cut-boundary (b ∷ bs) (c ∷ cs) broken =
    let fresh = IsAfresh-first b bs c cs broken in
    ap₂ (λ b ps. attach b c ps) (rule-afresh (b ∷ bs) c [] (cs ++ []) fresh) (cut-afresh (b ∷ bs) c [] cs fresh)

-- pieces that are one piece and others
record IsFirstPiece (cs q : List ℕ) (qs : List (List ℕ)) : Type 0 where
  rest : List ℕ
  whole : cs ≡ q ++ rest
  others : qs ≡ cut (is_grapheme_break true) [] rest []

cut-some : (before : List ℕ) (c : ℕ) (cs : List ℕ) → (q : List ℕ) × (qs : List (List ℕ)) × (cut (is_grapheme_break true) before (c ∷ cs) [] ≡ q ∷ qs)
unfolding cut
cut-some before c cs = some (is_grapheme_break true (c ∷ before) (cs ++ [])) (cut (is_grapheme_break true) (c ∷ before) cs [])
  where
    some : (b : Bool) (ps : List (List ℕ)) → (q : List ℕ) × (qs : List (List ℕ)) × (attach b c ps ≡ q ∷ qs)
    some true ps = (c ∷ [], ps, refl)
    some false [] = (c ∷ [], [], refl)
    some false (p ∷ ps) = (c ∷ p, ps, refl)

first-piece : (before cs q : List ℕ) (qs : List (List ℕ)) → cut (is_grapheme_break true) before cs [] ≡ q ∷ qs → IsFirstPiece cs q qs
unfolding cut is_grapheme_break
first-piece before [] q qs e = absurd (cc)
first-piece before (c ∷ []) q qs e = record {
  rest = [];
  whole = ap (λ (ps : List (List ℕ)). get_or ps 0 []) e ∙ sym (append-nil q);
  others = sym (ap (λ (ps : List (List ℕ)). drop 1 ps) e);
}
first-piece before (c ∷ d ∷ ds) q qs e =
    two_cases (is_grapheme_break true (c ∷ before) (d ∷ (ds ++ [])))
    (λ broken.
    let here : (c ∷ []) ∷ cut (is_grapheme_break true) (c ∷ before) (d ∷ ds) [] ≡ q ∷ qs =
    sym (ap (λ b. attach b c (cut (is_grapheme_break true) (c ∷ before) (d ∷ ds) [])) broken) ∙ e in
    record {
      rest = d ∷ ds;
      whole = ap (λ (ps : List (List ℕ)). get_or ps 0 [] ++ d ∷ ds) here;
      others = sym (ap (λ (ps : List (List ℕ)). drop 1 ps) here) ∙ cut-boundary (c ∷ before) (d ∷ ds) (ap (λ t. is_grapheme_break true (c ∷ before) (d ∷ t)) (sym (append-nil ds)) ∙ broken);
    })
    (λ joined.
    let inner = cut-some (c ∷ before) d ds in
    let here : (c ∷ inner.0) ∷ inner.1 ≡ q ∷ qs =
    sym (ap₂ (λ b ps. attach b c ps) joined inner.2) ∙ e in
    let more = first-piece (c ∷ before) (d ∷ ds) inner.0 inner.1 inner.2 in
    record {
      rest = more.rest;
      whole = ap (λ t. c ∷ t) more.whole ∙ ap (λ (ps : List (List ℕ)). get_or ps 0 [] ++ more.rest) here;
      others = sym (ap (λ (ps : List (List ℕ)). drop 1 ps) here) ∙ more.others;
    })

-- the clusters after the first are those of the text after it
pub clusters-rest : (text p rest : List ℕ) (ps : List (List ℕ)) → IsUtf8 text → IsUtf8 rest → clusters text ≡ p ∷ ps → text ≡ p ++ rest → clusters rest ≡ ps
unfolding segments
clusters-rest text p rest ps u v e join = from (cut (is_grapheme_break true) [] (chars text) []) refl
  where
    from : (pieces : List (List ℕ)) → cut (is_grapheme_break true) [] (chars text) [] ≡ pieces → clusters rest ≡ ps
    from [] k = absurd (let none = sym (ap (map encode_utf8_all) k) ∙ e in cc)
    from (q ∷ qs) k =
        let same = sym (ap (map encode_utf8_all) k) ∙ e in
        let first : encode_utf8_all q ≡ p = ap (λ (xs : List (List ℕ)). get_or xs 0 []) same in
        let others : map encode_utf8_all qs ≡ ps = ap (λ (xs : List (List ℕ)). drop 1 xs) same in
        let piece = first-piece [] (chars text) q qs k in
        let bytes : text ≡ p ++ encode_utf8_all piece.rest =
        sym (encodes-chars text u) ∙ ap encode_utf8_all piece.whole ∙ encodes-append q piece.rest ∙ ap (λ t. t ++ encode_utf8_all piece.rest) first in
        let after : encode_utf8_all piece.rest ≡ rest =
        sym (drop_at p (encode_utf8_all piece.rest) (length p) refl) ∙ ap (drop (length p)) (sym bytes ∙ join) ∙ drop_at p rest (length p) refl in
        let points = chars_from_encodes piece.rest rest v after in
        ap (λ cs. map encode_utf8_all (cut (is_grapheme_break true) [] cs [])) (sym points) ∙ ap (map encode_utf8_all) (sym piece.others) ∙ others

-- a first character with a boundary after it is a cluster
pub clusters-alone : (text rest : List ℕ) (c : ℕ) → chars text ≡ c ∷ chars rest → is_grapheme_break true (c ∷ []) (chars rest) ≡ true
    → clusters text ≡ encode_utf8_all (c ∷ []) ∷ clusters rest
unfolding segments cut
clusters-alone text rest c e broken =
    ap (λ cs. map encode_utf8_all (cut (is_grapheme_break true) [] cs [])) e
    ∙ ap₂ (λ b ps. map encode_utf8_all (attach b c ps)) (ap (is_grapheme_break true (c ∷ [])) (append-nil (chars rest)) ∙ broken) (cut-boundary (c ∷ []) (chars rest) broken)
