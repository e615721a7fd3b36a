-- The listing of well-formed operations lists them.
use Rattle.std.proofs.Common.{◌≡◌, ℕ, zero, suc, ◌+◌, ◌-◌, ◌^◌, ◌<◌, ◌≤◌, true, false, cond, not, ◌&&◌, ◌||◌, eqb, ltb, List, [], ◌∷◌, ◌++◌, length, get_or, take, drop, Some, None, refl, sym, ap, ◌∙◌, append_assoc, add-one, inl, inr, arith, subst}
use Rattle.std.specs.Prelude.{◌==◌, codes, decimal, bytes_eq, filter, replicate, map as each, option_map, option_to_list}
use Rattle.std.specs.Char.{digit_value}
use Rattle.std.specs.Fmt.{digits}
use Rattle.std.specs.List.{slice_split, onto_first, position_or_len, before_first, after_first, join_with_byte, flat_map, AllByRecursion}
use Rattle.std.specs.Str.Lines.{lines, lines_of_parts, strip_carriage_return}
use Rattle.std.specs.Str.Parse.{AllDigits, digits_value}
use Rattle.std.proofs.Math.Utf8.{scalar, scalar_cases}
use Rattle.std.proofs.Math.Seq.{take-append_seam}
use Rattle.std.proofs.lemmas.Bool.{cases_lt}
use Rattle.std.proofs.lemmas.Fmt.{digits_is_IsNumeral, decimal_is_IsNumeral, length-decimal-le}
use Rattle.std.proofs.lemmas.List.Concat.{flat_map-cons}
use Rattle.std.proofs.lemmas.List.Splits.{slice_split-cons_yes, slice_split-cons_no, length-slice_split}
use borrow.Author.Tests.{eq-eqb, ne_eqb, lt-ltb}
use Rattle.bg_types.specs.Identifier.{Identifier, IsIdentifier}
use Rattle.bg_types.specs.WellFormed.{IsWellFormed, MayFollow}
use Rattle.bg_types.specs.declared.op.Place.{Place}
use Rattle.bg_types.specs.declared.op.Place.TheVariants.{Root, After}
use Rattle.bg_types.specs.declared.op.OpView.{OpView}
use Rattle.bg_types.specs.declared.op.OpView.TheVariants.{Insert, Erase}
use Rattle.op_codec.specs.Fault.{has_zero}
use Rattle.op_listing.specs.Listing.{identifier_word, parent_word, scalar_word, line_words, line_of, listing_of}
use Rattle.op_listing.specs.Words.{is_word, words}
use Rattle.op_listing.specs.Number.{number_in, up_to}
use Rattle.op_listing.specs.Line.{counter_in, site_in, scalar_in, identifier_from, identifier_in, parent_in, insertion_from, operation_in, parent_has_zero, is_before, operation_fault, written_fault, words_fault, line_fault}
use Rattle.op_listing.specs.FirstFault.{AreFaultless}
use Rattle.op_listing.specs.Listed.{line_operations, Lists}
use Rattle.op_listing.proofs.Numerals.{number_in-some, up_to-some}
use Rattle.op_listing.proofs.Parting.{more_lines}
use Rattle.op_listing.proofs.Padding.{length-hexadecimal}

-- each byte is above m
abbrev pub AllAbove : ℕ → List ℕ → Type 0
AllAbove m bytes = AllByRecursion (λ b. m < b) bytes

pub above-append : (m : ℕ) (xs ys : List ℕ) → AllAbove m xs → AllAbove m ys → AllAbove m (xs ++ ys)
above-append m [] ys h k = k
above-append m (x ∷ xs) ys h k = (h.0, above-append m xs ys h.1 k)

pub above-less : (m n : ℕ) (xs : List ℕ) → n ≤ m → AllAbove m xs → AllAbove n xs
above-less m n [] le h = tt
above-less m n (x ∷ xs) le h = (let first = h.0 in omega (arith, first, le), above-less m n xs le h.1)

-- ---- cutting at a byte that does not occur before

module _ (c m : ℕ) (low : c ≤ m) where
  pub split_before : (w ys : List ℕ) → AllAbove m w → slice_split (λ b. b == c) (w ++ c ∷ ys) ≡ w ∷ slice_split (λ b. b == c) ys
  split_before [] ys h = slice_split-cons_yes (λ b. b == c) c ys (eq-eqb c c refl)
  split_before (b ∷ w) ys h =
      let first = h.0 in
      slice_split-cons_no (λ b. b == c) b (w ++ c ∷ ys) (ne_eqb b c (λ e. omega (arith, e, first, low))) ∙ ap (onto_first b) (split_before w ys h.1)

  split_whole : (w : List ℕ) → AllAbove m w → slice_split (λ b. b == c) w ≡ w ∷ []
  split_whole [] h = refl
  split_whole (b ∷ w) h =
      let first = h.0 in
      slice_split-cons_no (λ b. b == c) b w (ne_eqb b c (λ e. omega (arith, e, first, low))) ∙ ap (onto_first b) (split_whole w h.1)

  position_behind : (w ys : List ℕ) → AllAbove m w → position_or_len (λ b. b == c) (w ++ c ∷ ys) ≡ length w
  position_behind [] ys h = ap (λ t. cond (not t) (1 + position_or_len (λ b. b == c) ys) 0) (eq-eqb c c refl)
  position_behind (b ∷ w) ys h =
      let first = h.0 in
      let rest = position_behind w ys h.1 in
      ap (λ t. cond (not t) (1 + position_or_len (λ b. b == c) (w ++ c ∷ ys)) 0) (ne_eqb b c (λ e. omega (arith, e, first, low))) ∙ omega (arith, rest)

drop_behind : (w : List ℕ) (c : ℕ) (ys : List ℕ) → drop (length w + 1) (w ++ c ∷ ys) ≡ ys
drop_behind w c ys = rw add-one (behind w) where
  behind : (w : List ℕ) → drop (suc (length w)) (w ++ c ∷ ys) ≡ ys
  behind [] = refl
  behind (b ∷ w) = behind w

-- ---- words

-- a word is not empty, and holds no space, CR or LF
abbrev pub IsProper : List ℕ → Type 0
IsProper w = (is_word w ≡ true) × AllAbove 32 w

pub words_again : (ws : List (List ℕ)) → AllByRecursion IsProper ws → words (join_with_byte 32 ws) ≡ ws
words_again [] h = refl
words_again (w ∷ []) h =
    ap (filter is_word) (split_whole 32 32 (omega arith) w h.0.1) ∙ ap (λ t. cond t (w ∷ []) []) h.0.0
words_again (w ∷ v ∷ ws) h =
    ap (filter is_word) (split_before 32 32 (omega arith) w (join_with_byte 32 (v ∷ ws)) h.0.1)
    ∙ ap (λ t. cond t (w ∷ words (join_with_byte 32 (v ∷ ws))) (words (join_with_byte 32 (v ∷ ws)))) h.0.0
    ∙ ap (λ (vs : List (List ℕ)). w ∷ vs) (words_again (v ∷ ws) h.1)

pub joined_above : (ws : List (List ℕ)) → AllByRecursion IsProper ws → AllAbove 13 (join_with_byte 32 ws)
joined_above [] h = tt
joined_above (w ∷ []) h = above-less 32 13 w (omega arith) h.0.1
joined_above (w ∷ v ∷ ws) h = above-append 13 w (32 ∷ join_with_byte 32 (v ∷ ws)) (above-less 32 13 w (omega arith) h.0.1) (omega arith, joined_above (v ∷ ws) h.1)

-- ---- numbers

digit_above : (base c : ℕ) → base ≤ 16 → digit_value c < base → 47 < c
digit_above base c low h = elim (cases_lt c 48) [
  | inl lt ↦ let none : digit_value c ≡ 36 = ap (λ t. cond t 36 (cond (ltb c 58) (c - 48) (cond (ltb c 65) 36 (cond (ltb c 91) (c - 55) (cond (ltb c 97) 36 (cond (ltb c 123) (c - 87) 36)))))) (lt-ltb c 48 lt) in absurd (omega (arith, none, h, low))
  | inr le ↦ omega (arith, le)
]

pub digits_above : (base : ℕ) (ds : List ℕ) → base ≤ 16 → AllDigits base ds → AllAbove 47 ds
digits_above base [] low h = tt
digits_above base (c ∷ cs) low h = (digit_above base c low h.0, digits_above base cs low h.1)

pub some_word : (ds : List ℕ) → 0 < length ds → is_word ds ≡ true
some_word [] h = absurd (omega (arith, h))
some_word (c ∷ cs) h = refl

some_word-append : (ds es : List ℕ) → 0 < length ds → is_word (ds ++ es) ≡ true
some_word-append [] es h = absurd (omega (arith, h))
some_word-append (c ∷ cs) es h = refl

-- what a number below 2^32 is written as
record IsDecimal (n : ℕ) : Type 0 where
  digits : AllDigits 10 (decimal n)
  some : 0 < length (decimal n)
  most : length (decimal n) ≤ 10
  value : digits_value 10 (decimal n) ≡ n

is_decimal : (n : ℕ) → n < 2 ^ 32 → IsDecimal n
is_decimal n small =
    let numeral = decimal_is_IsNumeral n (omega (arith, small)) in
    record {
      digits = numeral.0.1;
      some = numeral.0.0;
      most = length-decimal-le 10 n (omega arith) (omega (arith, small)) (omega (arith, small));
      value = numeral.1;
    }

decimal_again : (n : ℕ) → n < 2 ^ 32 → number_in 10 1 10 (decimal n) ≡ Some n
decimal_again n small =
    let d = is_decimal n small in
    number_in-some 10 1 10 (decimal n) d.digits (let some = d.some in omega (arith, some)) d.most ∙ ap Some d.value

-- ---- identifiers

identifier_above : (id : Identifier) → IsIdentifier id → AllAbove 32 (identifier_word id)
identifier_above id ok =
    let c = is_decimal id.counter ok.counter_fits in
    let s = is_decimal id.site (let small = ok.site_fits in omega (arith, small)) in
    above-append 32 (decimal id.counter) (46 ∷ decimal id.site) (above-less 47 32 (decimal id.counter) (omega arith) (digits_above 10 (decimal id.counter) (omega arith) c.digits))
    (omega arith, above-less 47 32 (decimal id.site) (omega arith) (digits_above 10 (decimal id.site) (omega arith) s.digits))

identifier_proper : (id : Identifier) → IsIdentifier id → IsProper (identifier_word id)
identifier_proper id ok =
    let c = is_decimal id.counter ok.counter_fits in
    (some_word-append (decimal id.counter) (46 ∷ decimal id.site) c.some, identifier_above id ok)

-- `C.S` in digits
pub identifier_in-digits : (cs ss : List ℕ) (counter site : ℕ) → AllDigits 10 cs → counter_in cs ≡ Some counter → site_in ss ≡ Some site → identifier_in (cs ++ 46 ∷ ss) ≡ Some (record { counter = counter; site = site })
identifier_in-digits cs ss counter site all c s =
    let at = position_behind 46 46 (omega arith) cs ss (above-less 47 46 cs (omega arith) (digits_above 10 cs (omega arith) all)) in
    let before : before_first (λ b. b == 46) (cs ++ 46 ∷ ss) ≡ cs = ap (λ (k : ℕ). take k (cs ++ 46 ∷ ss)) at ∙ take-append_seam cs (46 ∷ ss) in
    let after : after_first (λ b. b == 46) (cs ++ 46 ∷ ss) ≡ ss = ap (λ (k : ℕ). drop (k + 1) (cs ++ 46 ∷ ss)) at ∙ drop_behind cs 46 ss in
    (λ i. identifier_from (counter_in (before i)) (site_in (after i))) ∙ (λ i. identifier_from (c i) (s i))

identifier_again : (id : Identifier) → IsIdentifier id → identifier_in (identifier_word id) ≡ Some id
identifier_again id ok =
    let cs = decimal id.counter in
    let ss = decimal id.site in
    let c = is_decimal id.counter ok.counter_fits in
    let counter : counter_in cs ≡ Some id.counter =
    ap (up_to 4_294_967_295) (decimal_again id.counter ok.counter_fits) ∙ up_to-some 4_294_967_295 id.counter (let small = ok.counter_fits in omega (arith, small)) in
    let site : site_in ss ≡ Some id.site =
    let small = ok.site_fits in ap (up_to 65_535) (decimal_again id.site (omega (arith, small))) ∙ up_to-some 65_535 id.site (omega (arith, small)) in
    identifier_in-digits cs ss id.counter id.site c.digits counter site

-- ---- parents

not_root : (cs ss : List ℕ) → AllDigits 10 cs → 0 < length cs → bytes_eq (cs ++ ss) (codes "root") ≡ false
not_root [] ss h some = absurd (omega (arith, some))
not_root (c ∷ cs) ss h some =
    let small = h.0 in
    let other : eqb c 114 ≡ false = ne_eqb c 114 (λ e. let letter : digit_value c ≡ 27 = ap digit_value e in omega (arith, letter, small)) in
    ap (λ t. t && bytes_eq (cs ++ ss) (111 ∷ 111 ∷ 116 ∷ [])) other

parent_again : (parent : Place) (id : Identifier) → MayFollow parent id → parent_in (parent_word parent) ≡ Some parent
parent_again Root id ok = refl
parent_again (After p) id ok =
    let c = is_decimal p.counter ok.0.counter_fits in
    ap (λ t. cond t (Some Root) (option_map After (identifier_in (identifier_word p)))) (not_root (decimal p.counter) (46 ∷ decimal p.site) c.digits c.some)
    ∙ ap (option_map After) (identifier_again p ok.0)

parent_proper : (parent : Place) (id : Identifier) → MayFollow parent id → IsProper (parent_word parent)
parent_proper Root id ok = (refl, (omega arith, (omega arith, (omega arith, (omega arith, tt)))))
parent_proper (After p) id ok = identifier_proper p ok.0

-- ---- characters

zeros_digits : (k : ℕ) (ds : List ℕ) → AllDigits 16 ds → AllDigits 16 (replicate k 48 ++ ds)
zeros_digits zero ds h = h
zeros_digits (suc k) ds h = (omega arith, zeros_digits k ds h)

zeros_value : (k : ℕ) (ds : List ℕ) → digits_value 16 (replicate k 48 ++ ds) ≡ digits_value 16 ds
zeros_value zero ds = refl
zeros_value (suc k) ds = zeros_value k ds

length-zeros : (k : ℕ) (ds : List ℕ) → length (replicate k 48 ++ ds) ≡ k + length ds
length-zeros zero ds = omega arith
length-zeros (suc k) ds = let rest = length-zeros k ds in omega (arith, rest)

record IsHexadecimal (n : ℕ) : Type 0 where
  all : AllDigits 16 (scalar_word n)
  least : 4 ≤ length (scalar_word n)
  most : length (scalar_word n) ≤ 6
  value : digits_value 16 (scalar_word n) ≡ n

is_hexadecimal : (n : ℕ) → n < 16 ^ 6 → IsHexadecimal n
is_hexadecimal n small =
    let ds = digits 16 true n in
    let numeral = digits_is_IsNumeral 16 true (omega arith) (omega arith) n (omega (arith, small)) in
    let len = length-zeros (4 - length ds) ds in
    let short = length-hexadecimal n small in
    record {
      all = zeros_digits (4 - length ds) ds numeral.0.1;
      least = omega (arith, len);
      most = omega (arith, len, short);
      value = zeros_value (4 - length ds) ds ∙ numeral.1;
    }

scalar_small : (n : ℕ) → scalar n ≡ true → n < 16 ^ 6
scalar_small n ok = elim (scalar_cases n ok) [
  | inl low ↦ omega (arith, low)
  | inr high ↦ let most = high.1 in omega (arith, most)
]

scalar_again : (n : ℕ) → scalar n ≡ true → scalar_in (scalar_word n) ≡ Some n
scalar_again n ok = let h = is_hexadecimal n (scalar_small n ok) in number_in-some 16 4 6 (scalar_word n) h.all h.least h.most ∙ ap Some h.value

scalar_proper : (n : ℕ) → scalar n ≡ true → IsProper (scalar_word n)
scalar_proper n ok =
    let h = is_hexadecimal n (scalar_small n ok) in
    (some_word (scalar_word n) (let long = h.least in omega (arith, long)), above-less 47 32 (scalar_word n) (omega arith) (digits_above 16 (scalar_word n) (omega arith) h.all))

-- ---- an operation's line

line_proper : (op : OpView) → IsWellFormed op → AllByRecursion IsProper (line_words op)
line_proper (Insert id parent ch) ok = ((refl, (omega arith, tt)), (identifier_proper id ok.0, (parent_proper parent id ok.1, (scalar_proper ch ok.2, tt))))
line_proper (Erase target) ok = ((refl, (omega arith, tt)), (identifier_proper target ok, tt))

written_again : (op : OpView) → IsWellFormed op → operation_in (line_words op) ≡ Some op
written_again (Insert id parent ch) ok =
    let a = identifier_again id ok.0 in
    let b = parent_again parent id ok.1 in
    let c = scalar_again ch ok.2 in
    λ i. insertion_from (a i) (b i) (c i)
written_again (Erase target) ok = ap (option_map Erase) (identifier_again target ok)

no_zero : (id : Identifier) → IsIdentifier id → has_zero id ≡ false
no_zero id ok =
    let counter : eqb id.counter 0 ≡ false = let some = ok.counter_positive in ne_eqb id.counter 0 (λ e. omega (arith, e, some)) in
    let site : eqb id.site 0 ≡ false = let some = ok.site_positive in ne_eqb id.site 0 (λ e. omega (arith, e, some)) in
    λ i. counter i || site i

parent_no_zero : (parent : Place) (id : Identifier) → MayFollow parent id → parent_has_zero parent ≡ false
parent_no_zero Root id ok = refl
parent_no_zero (After p) id ok = no_zero p ok.0

before : (parent : Place) (id : Identifier) → MayFollow parent id → is_before parent id ≡ true
before Root id ok = refl
before (After p) id ok = lt-ltb p.counter id.counter ok.1

pub no_fault : (op : OpView) → IsWellFormed op → operation_fault op ≡ None
no_fault (Insert id parent ch) ok = rw (no_zero id ok.0, parent_no_zero parent id ok.1, before parent id ok.1, ok.2) refl
no_fault (Erase target) ok = rw (no_zero target ok) refl

-- the line without the LF that ends it
text_of : OpView → List ℕ
text_of op = join_with_byte 32 (line_words op)

pub faultless_words : (ws : List (List ℕ)) (op : OpView) → operation_in ws ≡ Some op → operation_fault op ≡ None → words_fault ws ≡ None
faultless_words [] op is none = refl
faultless_words (verb ∷ fields) op is none = ap written_fault is ∙ none

line_again : (op : OpView) → IsWellFormed op → (line_fault (text_of op) ≡ None) × (line_operations (text_of op) ≡ op ∷ [])
unfolding text_of
line_again op ok =
    let same = words_again (line_words op) (line_proper op ok) in
    (ap words_fault same ∙ faultless_words (line_words op) op (written_again op ok) (no_fault op ok), ap (λ (ws : List (List ℕ)). option_to_list (operation_in ws)) same ∙ ap option_to_list (written_again op ok))

-- ---- the lines of a listing

above_at : (l : List ℕ) (i : ℕ) → AllAbove 13 l → i < length l → 13 < get_or l i 0
above_at [] i h lt = absurd (omega (arith, lt))
above_at (b ∷ l) zero h lt = h.0
above_at (b ∷ l) (suc i) h lt = above_at l i h.1 (omega (arith, lt))

no_return : (l : List ℕ) → AllAbove 13 l → strip_carriage_return l ≡ l
no_return [] h = refl
no_return (b ∷ l) h =
    let last = above_at (b ∷ l) (length (b ∷ l) - 1) h (omega arith) in
    ap (λ t. cond t (take (length (b ∷ l) - 1) (b ∷ l)) (b ∷ l)) (ne_eqb (get_or (b ∷ l) (length (b ∷ l) - 1) 0) 13 (λ e. omega (arith, e, last)))

pub lines-cons : (line rest : List ℕ) → AllAbove 13 line → lines (line ++ 10 ∷ rest) ≡ line ∷ lines rest
lines-cons line rest h =
    let some = length-slice_split (λ b. b == 10) rest in
    ap lines_of_parts (split_before 10 13 (omega arith) line rest h) ∙ more_lines line (slice_split (λ b. b == 10) rest) (omega (arith, some))
    ∙ ap (λ (l : List ℕ). l ∷ lines rest) (no_return line h)

listing_lines : (ops : List OpView) → AllByRecursion IsWellFormed ops → lines (listing_of ops) ≡ each text_of ops
unfolding text_of
listing_lines [] ok = refl
listing_lines (op ∷ ops) ok =
    let text = join_with_byte 32 (line_words op) in
    ap lines (flat_map-cons line_of op ops ∙ append_assoc text (10 ∷ []) (listing_of ops))
    ∙ lines-cons text (listing_of ops) (joined_above (line_words op) (line_proper op ok.0))
    ∙ ap (λ (ls : List (List ℕ)). text ∷ ls) (listing_lines ops ok.1)

all_faultless : (ops : List OpView) → AllByRecursion IsWellFormed ops → AreFaultless line_fault (each text_of ops)
all_faultless [] ok = tt
all_faultless (op ∷ ops) ok = ((line_again op ok.0).0, all_faultless ops ok.1)

all_written : (ops : List OpView) → AllByRecursion IsWellFormed ops → flat_map line_operations (each text_of ops) ≡ ops
all_written [] ok = refl
all_written (op ∷ ops) ok =
    flat_map-cons line_operations (text_of op) (each text_of ops) ∙ ap (λ (l : List OpView). l ++ flat_map line_operations (each text_of ops)) (line_again op ok.0).1
    ∙ ap (λ (l : List OpView). op ∷ l) (all_written ops ok.1)

pub listed_again : (ops : List OpView) → AllByRecursion IsWellFormed ops → Lists (listing_of ops) ops
listed_again ops ok =
    let same = listing_lines ops ok in
    record {
      faultless = subst (AreFaultless line_fault) (sym same) (all_faultless ops ok);
      written = sym (ap (flat_map line_operations) same ∙ all_written ops ok);
    }
