-- What a buffer knows of its blocks, and its faults.
use Rattle.std.proofs.Common.{Result, Ok, Err, ◌≡◌, ℕ, ◌≤◌, List, length, sym, ap, subst, ◌∙◌, arith}
use Rattle.std.specs.List.{concat}
use Rattle.unicode_tables.specs.Tables.{TableValues}
use Rattle.text_buffer.specs.declared.fault.BufferFault.{BufferFault}
use Rattle.text_buffer.specs.declared.fault.BufferFault.TheVariants.{TooLong, Memory}
use Rattle.text_buffer.specs.Codes.{buffer_code}
use Rattle.text_buffer.specs.declared.block.Block.{Block}
use Rattle.text_buffer.specs.declared.find.Before.{Before}
use Rattle.text_buffer.specs.Buffers.{bytes_in, Fits, IsSplit}
use Rattle.text_buffer.specs.Blocks.{texts_in}
use Rattle.text_buffer.specs.Counted.{IsCounted}
use Rattle.text_buffer.specs.Places.{IsInFront}
use Rattle.text_buffer.proofs.Sums.{places-few}
use Rattle.text_buffer.proofs.Splits.{utf8-kept, split-parts}
use Rattle.text_buffer.proofs.Begun.{few-paragraphs, some-paragraph}

module _ {K : Type 0} where
  pub fits-split : (tables : TableValues) (bs : List (Block K)) → IsSplit tables (texts_in bs) → bytes_in (concat (texts_in bs)) ≤ 4_000_000 → length (texts_in bs) ≤ 4_000_001
  fits-split tables bs split few =
      let u = utf8-kept bs in
      let n = few-paragraphs tables (texts_in bs) (split-parts tables (texts_in bs) u split) in
      omega (arith, n, places-few (concat (texts_in bs)), few)

  pub fits-now : (tables : TableValues) (bs : List (Block K)) → IsSplit tables (texts_in bs) → bytes_in (concat (texts_in bs)) ≤ 4_000_000 → Fits (texts_in bs)
  fits-now tables bs split few = record { bytes = omega (arith, few); paragraphs = omega (arith, fits-split tables bs split few) }

  pub counted-new : (tables : TableValues) (bs : List (Block K)) (bytes places paragraphs : ℕ) (near : Before) (text : List ℕ) → IsInFront bs near → IsSplit tables (texts_in bs) → concat (texts_in bs) ≡ text
      → bytes ≡ bytes_in text → places ≡ length text → paragraphs ≡ length (texts_in bs) → bytes ≤ 4_000_000 → IsCounted bs bytes places paragraphs near
  counted-new tables bs bytes places paragraphs near text near_is split is bytes_is places_is paragraphs_is few =
      let u = utf8-kept bs in
      let parts_is = split-parts tables (texts_in bs) u split in
      let all = bytes_is ∙ ap bytes_in (sym is) in
      record {
        some = omega (arith, some-paragraph tables (texts_in bs) parts_is, paragraphs_is);
        bytes_is = all;
        places_is = places_is ∙ ap length (sym is);
        paragraphs_is = paragraphs_is;
        few = few;
        fits = fits-now tables bs split (omega (arith, all, few));
        near_is = near_is;
      }

  -- what is kept is not counted
  pub counted-same : (old new : List (Block K)) (bytes places paragraphs : ℕ) (was near : Before) → texts_in new ≡ texts_in old → IsInFront new near → IsCounted old bytes places paragraphs was → IsCounted new bytes places paragraphs near
  counted-same old new bytes places paragraphs was near same near_is i =
      record {
        some = i.some;
        bytes_is = i.bytes_is ∙ ap (λ t. bytes_in (concat t)) (sym same);
        places_is = i.places_is ∙ ap (λ t. length (concat t)) (sym same);
        paragraphs_is = i.paragraphs_is ∙ ap length (sym same);
        few = i.few;
        fits = subst Fits (sym same) i.fits;
        near_is = near_is;
      }

-- ---- faults

abbrev code_of : {T : Type 0} → Result T BufferFault → ℕ
code_of (Ok v) = 0
code_of (Err fault) = buffer_code fault

pub ok-fits : {T : Type 0} (r : Result T BufferFault) (v : T) → r ≡ Ok v → r ≡ Err TooLong → ⊥
ok-fits r v is long = let e = ap code_of (sym is ∙ long) in omega (arith, e)

pub memory-fits : {T : Type 0} (r : Result T BufferFault) → r ≡ Err Memory → r ≡ Err TooLong → ⊥
memory-fits r is long = let e = ap code_of (sym is ∙ long) in omega (arith, e)

pub fault-of : {T : Type 0} (one other : BufferFault) → ◌≡◌ {A = Result T BufferFault} (Err one) (Err other) → one ≡ other
fault-of one other is = cc
