-- What stands at the front of a plain line, and what such a line writes.
use Rattle.std.proofs.Common.{◌≡◌, ℕ, ◌-◌, ◌^◌, ◌<◌, ◌≤◌, true, cond, eqb, List, [], ◌∷◌, ◌++◌, length, get_or, take, drop, Some, None, Result, Ok, Err, refl, sym, ap, ◌∙◌, append_assoc, inl, inr, arith}
use Rattle.std.specs.Prelude.{◌==◌, codes, option_map, option_to_list, IfOk, MatchResult}
use Rattle.std.specs.Result.{result_ok}
use Rattle.std.specs.List.{join_with_byte, slice_split, AllByRecursion}
use Rattle.std.specs.Str.Lines.{lines, lines_of_parts, strip_carriage_return}
use Rattle.std.specs.Str.Parse.{AllDigits, digits_value}
use Rattle.std.proofs.Math.Seq.{take-append_seam}
use Rattle.std.proofs.lemmas.List.{length-take-le, length-drop, length-append, take-append-drop, take_all}
use Rattle.std.proofs.lemmas.List.Splits.{length-slice_split}
use Rattle.bg_types.specs.Identifier.{Identifier}
use Rattle.bg_types.specs.declared.op.Place.{Place}
use Rattle.bg_types.specs.declared.op.OpView.{OpView}
use Rattle.bg_types.specs.declared.op.OpView.TheVariants.{Insert, Erase}
use Rattle.op_listing.specs.Number.{up_to}
use Rattle.op_listing.specs.Line.{counter_in, site_in, scalar_in, identifier_in, parent_in, insertion_from, operation_in, operation_fault, words_fault}
use Rattle.op_listing.specs.Plain.{TakesField, TakesLine, EndsLine}
use Rattle.op_listing.proofs.Numerals.{few_digits, number_in-some, up_to-some}
use Rattle.op_listing.proofs.Parting.{more_lines}
use Rattle.op_listing.proofs.ListedAgain.{AllAbove, above-append, above-less, split_before, IsProper, words_again, joined_above, digits_above, identifier_in-digits, some_word, faultless_words, lines-cons}

-- ---- words at the front

-- what a slice from a place on has
pub slice_from : (count : ℕ) (bytes : List ℕ) → take (length bytes - count) (drop count bytes) ≡ drop count bytes
slice_from count bytes = take_all (length bytes - count) (drop count bytes) (omega (arith, length-drop count bytes))

front : (bytes : List ℕ) (count : ℕ) → bytes ≡ take count bytes ++ drop count bytes
front bytes count = sym (take-append-drop count bytes)

pub identifier_taken : (bytes digits rest : List ℕ) (point end counter site : ℕ) → 20 ≤ length bytes → point ≤ 9 → end ≤ 9
    → AllDigits 10 (take point bytes) → counter ≡ digits_value 10 (take point bytes) → AllDigits 10 (take end digits) → site ≡ digits_value 10 (take end digits)
    → drop point bytes ≡ 46 ∷ digits → rest ≡ drop end digits → 0 < point → 0 < end → site < 2 ^ 16
    → TakesField (λ (word : List ℕ). identifier_in word ≡ Some (record { counter = counter; site = site })) bytes rest
identifier_taken bytes digits rest point end counter site room few short cs counter_is ss site_is point_is rest_is some some_site small =
    let within : point ≤ length bytes = omega (arith, room, few) in
    let behind = length-drop point bytes in
    let behind_is = ap (λ (s : List ℕ). length s) point_is in
    let inside : end ≤ length digits = omega (arith, behind, behind_is, room, few, short) in
    let front_digits = take point bytes in
    let back_digits = take end digits in
    let long = length-take-le point bytes within in
    let long_site = length-take-le end digits inside in
    let below = few_digits 10 9 bytes point counter (omega arith) within few cs counter_is in
    let number : counter_in front_digits ≡ Some counter =
    ap (up_to 4_294_967_295) (number_in-some 10 1 10 front_digits cs (omega (arith, long, some)) (omega (arith, long, few)) ∙ ap Some (sym counter_is)) ∙ up_to-some 4_294_967_295 counter (omega (arith, below)) in
    let number_site : site_in back_digits ≡ Some site =
    ap (up_to 65_535) (number_in-some 10 1 10 back_digits ss (omega (arith, long_site, some_site)) (omega (arith, long_site, short)) ∙ ap Some (sym site_is)) ∙ up_to-some 65_535 site (omega (arith, small)) in
    let total = length-append front_digits (46 ∷ back_digits) in
    record {
      word = front_digits ++ 46 ∷ back_digits;
      in_order = front bytes point ∙ ap (λ (s : List ℕ). front_digits ++ s) (point_is ∙ ap (λ (s : List ℕ). 46 ∷ s) (front digits end ∙ ap (λ (s : List ℕ). back_digits ++ s) (sym rest_is)))
          ∙ sym (append_assoc front_digits (46 ∷ back_digits) rest);
      some = omega (arith, total);
      short = omega (arith, total, long, long_site, few, short);
      visible = above-append 32 front_digits (46 ∷ back_digits) (above-less 47 32 front_digits (omega arith) (digits_above 10 front_digits (omega arith) cs))
          (omega arith, above-less 47 32 back_digits (omega arith) (digits_above 10 back_digits (omega arith) ss));
      said = identifier_in-digits front_digits back_digits counter site cs number number_site;
    }

pub scalar_taken : (bytes rest : List ℕ) (count code : ℕ) → count ≤ length bytes → 4 ≤ count → count ≤ 6 → AllDigits 16 (take count bytes) → code ≡ digits_value 16 (take count bytes) → rest ≡ drop count bytes
    → TakesField (λ (word : List ℕ). scalar_in word ≡ Some code) bytes rest
scalar_taken bytes rest count code within least most all is rest_is =
    let word = take count bytes in
    let long = length-take-le count bytes within in
    record {
      word = word;
      in_order = front bytes count ∙ ap (λ (s : List ℕ). word ++ s) (sym rest_is);
      some = omega (arith, long, least);
      short = omega (arith, long, most);
      visible = above-less 47 32 word (omega arith) (digits_above 16 word (omega arith) all);
      said = number_in-some 16 4 6 word all (omega (arith, long, least)) (omega (arith, long, most)) ∙ ap Some (sym is);
    }

-- ---- the line

stripped : (line : List ℕ) → strip_carriage_return (line ++ 13 ∷ []) ≡ line
stripped line =
    let long = length-append line (13 ∷ []) in
    let last : length (line ++ 13 ∷ []) - 1 ≡ length line = omega (arith, long) in
    let return : eqb (get_or (line ++ 13 ∷ []) (length (line ++ 13 ∷ []) - 1) 0) 13 ≡ true = ap (λ (k : ℕ). eqb (get_or (line ++ 13 ∷ []) k 0) 13) last ∙ behind line in
    ap (λ t. cond t (take (length (line ++ 13 ∷ []) - 1) (line ++ 13 ∷ [])) (line ++ 13 ∷ [])) return
    ∙ ap (λ (k : ℕ). take k (line ++ 13 ∷ [])) last ∙ take-append_seam line (13 ∷ []) where
      behind : (l : List ℕ) → eqb (get_or (l ++ 13 ∷ []) (length l) 0) 13 ≡ true
      behind [] = refl
      behind (b ∷ l) = behind l

lines-return : (line rest : List ℕ) → AllAbove 13 line → lines (line ++ 13 ∷ 10 ∷ rest) ≡ line ∷ lines rest
lines-return line rest h =
    let some = length-slice_split (λ b. b == 10) rest in
    ap lines (sym (append_assoc line (13 ∷ []) (10 ∷ rest)))
    ∙ ap lines_of_parts (split_before 10 12 (omega arith) (line ++ 13 ∷ []) rest (above-append 12 line (13 ∷ []) (above-less 13 12 line (omega arith) h) (omega arith, tt)))
    ∙ more_lines (line ++ 13 ∷ []) (slice_split (λ b. b == 10) rest) (omega (arith, some))
    ∙ ap (λ (l : List ℕ). l ∷ lines rest) (stripped line)

-- words one space apart, up to the end of the line, that write a well-formed operation
line_taken : (ws : List (List ℕ)) (op : OpView) (text after rest : List ℕ) → AllByRecursion IsProper ws → operation_in ws ≡ Some op → operation_fault op ≡ None → text ≡ join_with_byte 32 ws ++ after → EndsLine after rest → TakesLine text op rest
line_taken ws op text after rest proper is ok in_order ends =
    let line = join_with_byte 32 ws in
    let same = words_again ws proper in
    let above = joined_above ws proper in
    let total = ap (λ (s : List ℕ). length s) in_order in
    let long = length-append line after in
    record {
      line = line;
      first = ap lines in_order ∙ elim ends [
        | inl feed ↦ ap (λ (s : List ℕ). lines (line ++ s)) feed ∙ lines-cons line rest above
        | inr return ↦ ap (λ (s : List ℕ). lines (line ++ s)) return ∙ lines-return line rest above
      ];
      faultless = ap words_fault same ∙ faultless_words ws op is ok;
      written = ap (λ (vs : List (List ℕ)). option_to_list (operation_in vs)) same ∙ ap option_to_list is;
      shorter = elim ends [
        | inl feed ↦ let l = ap (λ (s : List ℕ). length s) feed in omega (arith, total, long, l)
        | inr return ↦ let l = ap (λ (s : List ℕ). length s) return in omega (arith, total, long, l)
      ];
    }

proper : (Says : List ℕ → Type 0) (bytes rest : List ℕ) → (h : TakesField Says bytes rest) → IsProper h.word
proper Says bytes rest h = (some_word h.word h.some, h.visible)

pub insertion_taken : (id : Identifier) (parent : Place) (ch : ℕ) (op : OpView) (fields one two three four after rest : List ℕ) → op ≡ Insert id parent ch → operation_fault op ≡ None
    → TakesField (λ (word : List ℕ). identifier_in word ≡ Some id) fields one → one ≡ 32 ∷ two → TakesField (λ (word : List ℕ). parent_in word ≡ Some parent) two three → three ≡ 32 ∷ four
    → TakesField (λ (word : List ℕ). scalar_in word ≡ Some ch) four after → EndsLine after rest → TakesLine (105 ∷ 32 ∷ fields) op rest
insertion_taken id parent ch op fields one two three four after rest op_is ok i space p second_space c ends =
    line_taken (codes "i" ∷ i.word ∷ p.word ∷ c.word ∷ []) op (105 ∷ 32 ∷ fields) after rest
    ((refl, (omega arith, tt)), (proper _ fields one i, (proper _ two three p, (proper _ four after c, tt))))
    ((λ k. insertion_from (i.said k) (p.said k) (c.said k)) ∙ ap Some (sym op_is))
    ok
    (ap (λ (s : List ℕ). 105 ∷ 32 ∷ s) joined)
    ends where
      joined : fields ≡ (i.word ++ 32 ∷ (p.word ++ 32 ∷ c.word)) ++ after
      joined =
          let last : three ≡ 32 ∷ (c.word ++ after) = second_space ∙ ap (λ (s : List ℕ). 32 ∷ s) c.in_order in
          let middle : two ≡ (p.word ++ 32 ∷ c.word) ++ after = p.in_order ∙ ap (λ (s : List ℕ). p.word ++ s) last ∙ sym (append_assoc p.word (32 ∷ c.word) after) in
          i.in_order ∙ ap (λ (s : List ℕ). i.word ++ s) (space ∙ ap (λ (s : List ℕ). 32 ∷ s) middle) ∙ sym (append_assoc i.word (32 ∷ (p.word ++ 32 ∷ c.word)) after)

pub erasure_taken : (target : Identifier) (op : OpView) (fields after rest : List ℕ) → op ≡ Erase target → operation_fault op ≡ None → TakesField (λ (word : List ℕ). identifier_in word ≡ Some target) fields after
    → EndsLine after rest → TakesLine (101 ∷ 32 ∷ fields) op rest
erasure_taken target op fields after rest op_is ok t ends =
    line_taken (codes "e" ∷ t.word ∷ []) op (101 ∷ 32 ∷ fields) after rest
    ((refl, (omega arith, tt)), (proper _ fields after t, tt))
    (ap (option_map Erase) t.said ∙ ap Some (sym op_is))
    ok
    (ap (λ (s : List ℕ). 101 ∷ 32 ∷ s) t.in_order)
    ends

-- an insertion that was made has no fault
pub insertion_made : {E : Type 0} (r : Result OpView E) (faulty : E → Type 0) (op made : OpView) → Some op ≡ result_ok r → IfOk r (λ (o : OpView). o ≡ made) → MatchResult r (λ _. operation_fault made ≡ None) faulty
    → (op ≡ made) × (operation_fault op ≡ None)
insertion_made (Ok o) faulty op made is ok none = let same : op ≡ o = cc in (same ∙ ok, ap operation_fault (same ∙ ok) ∙ none)
insertion_made (Err e) faulty op made is ok none = absurd cc
