-- The text stands between what is before the first place in its paragraph and what is behind the last one in its own.
use Rattle.std.proofs.Common.{rules, Err, ◌≡◌, ℕ, ◌+◌, ◌-◌, ◌≤◌, List, [], ◌∷◌, ◌++◌, cond, length, take, get_or, refl, sym, ap, ap₂, subst, ◌∙◌, arith}
use Rattle.std.proofs.lemmas.List.{append_assoc, length-append}
use Rattle.std.proofs.lemmas.Result.{err_from_is_err_and}
use Rattle.std.proofs.lemmas.Str.{chars_from_encodes, chars-append, encodes-chars, IsUtf8-string_bytes}
use Rattle.std.specs.List.{concat}
use Rattle.std.specs.Prelude.{nat_eq, string_bytes, IfSome}
use Rattle.unicode_tables.specs.Tables.{bidi_of}
use Rattle.paragraphs.proofs.Interface.{parts, points-parts}
use Rattle.paragraphs.specs.Text.{code_points}
use Rattle.text_buffer.specs.Edits.{IsParagraphOf}
use Rattle.text_buffer.specs.Blocks.{texts_in}
use Rattle.text_buffer.specs.Stretches.{IsBegun, IsRemade, IsOne, text_with}
use Rattle.text_buffer.proofs.Splits.{utf8-kept, split-parts}
use Rattle.text_buffer.proofs.Begun.{stretch-own}
use Rattle.text_buffer.proofs.Whole.{whole-stretch, told-if}
use Rattle.text_buffer.proofs.Edits.{text-replaced, paragraphs-order, is-paragraph, of-first, bytes-replaced}
use Rattle.text_buffer.proofs.Sums.{bytes-front, bytes-some, places-few}
use Rattle.text_buffer.proofs.Texts.{places-at}
use Rattle.text_buffer.proofs.Counted.{ok-fits, memory-fits}
use Rattle.text_buffer.proofs.stretch.plan_edit.Goals as goal

pub overflow_sub-others : goal.overflow_sub-others
overflow_sub-others g c =
    let bs = c.args.blocks.now in
    let kept = texts_in bs in
    let from = c.args.from in
    let to = c.args.to in
    let a = c.place_at-first.ensures.parted in
    let z = c.place_behind-last.ensures.parted in
    let more = bytes-front (concat kept) from to c.requires.order in
    omega (arith, a.bytes, z.bytes, more)

pub overflow_sub-others-2 : goal.overflow_sub-others-2
overflow_sub-others-2 g c =
    let bs = c.args.blocks.now in
    let kept = texts_in bs in
    let to = c.args.to in
    let a = c.place_at-first.ensures.parted in
    let z = c.place_behind-last.ensures.parted in
    let few = bytes-some (concat kept) to in
    omega (arith, a.bytes, z.bytes, few, c.requires.bytes)

pub returns-then-text-others-clause-too_long : goal.returns-then-text-others-clause-too_long
returns-then-text-others-clause-too_long g c =
    let bs = c.args.blocks.now in
    let kept = texts_in bs in
    let from = c.args.from in
    let to = c.args.to in
    let points = code_points c.args.text.now in
    let a = c.place_at-first.ensures.parted in
    let z = c.place_behind-last.ensures.parted in
    let more = bytes-front (concat kept) from to c.requires.order in
    let few = bytes-some (concat kept) to in
    let all = bytes-replaced (concat kept) points from to c.requires.order in
    let text = ap length (encodes-chars c.args.text.now c.utf8.text) in
    (λ _. omega (arith, all, text, a.bytes, z.bytes, more, few, c.requires.bytes, c.requires.few, c.if-text-others.true), λ _. refl)

pub returns-in_err-whole-clause-too_long : goal.returns-in_err-whole-clause-too_long
returns-in_err-whole-clause-too_long g c =
    let bs = c.args.blocks.now in
    let kept = texts_in bs in
    let from = c.args.from in
    let to = c.args.to in
    let points = code_points c.args.text.now in
    let a = c.place_at-first.ensures.parted in
    let z = c.place_behind-last.ensures.parted in
    let more = bytes-front (concat kept) from to c.requires.order in
    let few = bytes-some (concat kept) to in
    let all = bytes-replaced (concat kept) points from to c.requires.order in
    let text = ap length (encodes-chars c.args.text.now c.utf8.text) in
    let p = err_from_is_err_and c.from_residual.result c.from_residual.ensures.1 in
    (λ e. absurd (memory-fits _ (p.1 ∙ ap Err p.2) e), λ m. absurd (omega (arith, all, text, a.bytes, z.bytes, more, few, c.requires.bytes, c.requires.few, c.if-text-others.false, m)))

pub stretch_at-requires-clause-order : goal.stretch_at-requires-clause-order
stretch_at-requires-clause-order g c =
    let bs = c.args.blocks.now in
    let kept = texts_in bs in
    let from = c.args.from in
    let to = c.args.to in
    let a = c.place_at-first.ensures.parted in
    let z = c.place_behind-last.ensures.parted in
    let low = c.place_at-first.result in
    let high = c.place_behind-last.result in
    let more = bytes-front (concat kept) from to c.requires.order in
    let order = paragraphs-order kept low.number high.number from to (code_points low.front.now) (code_points low.back.now) (code_points high.front.now) (code_points high.back.now) a.there z.there a.own z.own a.place z.place c.requires.order z.more in
    omega (arith, order)

pub stretch_at-requires-clause-begins : goal.stretch_at-requires-clause-begins
stretch_at-requires-clause-begins g c =
    let points = code_points c.args.text.now in
    let a = c.place_at-first.ensures.parted in
    let low = c.place_at-first.result in
    let high = c.place_behind-last.result in
    let f = code_points low.front.now in
    let b = code_points high.back.now in
    let w = ap code_points c.in_ok-whole.ensures ∙ chars-append low.front.now (c.args.text.now ++ high.back.now) a.front ∙ ap (λ t. f ++ t) (chars-append c.args.text.now high.back.now c.utf8.text) in
    (points ++ b, w)

pub returns-in_err-stretch-clause-too_long : goal.returns-in_err-stretch-clause-too_long
returns-in_err-stretch-clause-too_long g c =
    let bs = c.args.blocks.now in
    let kept = texts_in bs in
    let from = c.args.from in
    let to = c.args.to in
    let points = code_points c.args.text.now in
    let a = c.place_at-first.ensures.parted in
    let z = c.place_behind-last.ensures.parted in
    let more = bytes-front (concat kept) from to c.requires.order in
    let few = bytes-some (concat kept) to in
    let all = bytes-replaced (concat kept) points from to c.requires.order in
    let text = ap length (encodes-chars c.args.text.now c.utf8.text) in
    let p = err_from_is_err_and c.from_residual-in_err-stretch.result c.from_residual-in_err-stretch.ensures.1 in
    (λ e. absurd (memory-fits _ (p.1 ∙ ap Err p.2) e), λ m. absurd (omega (arith, all, text, a.bytes, z.bytes, more, few, c.requires.bytes, c.requires.few, c.if-text-others.false, m)))

pub returns-clause-stretch : goal.returns-clause-stretch
returns-clause-stretch g c =
    let bs = c.args.blocks.now in
    let kept = texts_in bs in
    let from = c.args.from in
    let to = c.args.to in
    let points = code_points c.args.text.now in
    let a = c.place_at-first.ensures.parted in
    let z = c.place_behind-last.ensures.parted in
    let low = c.place_at-first.result in
    let high = c.place_behind-last.result in
    let more = bytes-front (concat kept) from to c.requires.order in
    let f = code_points low.front.now in
    let b = code_points high.back.now in
    let w = ap code_points c.in_ok-whole.ensures ∙ chars-append low.front.now (c.args.text.now ++ high.back.now) a.front ∙ ap (λ t. f ++ t) (chars-append c.args.text.now high.back.now c.utf8.text) in
    let tables = c.args.tables.now in
    let s = c.in_ok-stretch.stretch in
    let made = c.in_ok-stretch.ensures in
    let t = code_points (string_bytes s.text) in
    let is = split-parts tables kept (utf8-kept bs) c.requires.split in
    let x = made.ends.0 in
    let ends = made.ends.1 ∙ ap (λ y. x ++ y) (w ∙ sym (append_assoc f points b)) ∙ sym (append_assoc x (f ++ points) b) in
    subst (λ n. IsRemade tables kept s.from n t) (sym made.to)
    (stretch-own tables kept is s.from high.number (code_points high.front.now) b (x ++ (f ++ points)) t (subst (λ n. IsBegun tables kept s.from n t) made.to made.begun) z.own z.more ends)

pub returns-clause-some : goal.returns-clause-some
returns-clause-some g c = λ later.
    let bs = c.args.blocks.now in
    let kept = texts_in bs in
    let from = c.args.from in
    let to = c.args.to in
    let points = code_points c.args.text.now in
    let a = c.place_at-first.ensures.parted in
    let z = c.place_behind-last.ensures.parted in
    let low = c.place_at-first.result in
    let high = c.place_behind-last.result in
    let more = bytes-front (concat kept) from to c.requires.order in
    let f = code_points low.front.now in
    let b = code_points high.back.now in
    let w = ap code_points c.in_ok-whole.ensures ∙ chars-append low.front.now (c.args.text.now ++ high.back.now) a.front ∙ ap (λ t. f ++ t) (chars-append c.args.text.now high.back.now c.utf8.text) in
    let made = c.in_ok-stretch.ensures in
    let x = made.ends.0 in
    let size = ap length (made.ends.1 ∙ ap (λ y. x ++ y) w) in
    let some = z.more (omega (arith, later, made.to)) in
    omega (arith, size, some, length-append x (f ++ (points ++ b)), length-append f (points ++ b), length-append points b)

pub returns-clause-text : goal.returns-clause-text
returns-clause-text g c =
    let bs = c.args.blocks.now in
    let kept = texts_in bs in
    let from = c.args.from in
    let to = c.args.to in
    let points = code_points c.args.text.now in
    let a = c.place_at-first.ensures.parted in
    let z = c.place_behind-last.ensures.parted in
    let low = c.place_at-first.result in
    let high = c.place_behind-last.result in
    let f = code_points low.front.now in
    let b = code_points high.back.now in
    let w = ap code_points c.in_ok-whole.ensures ∙ chars-append low.front.now (c.args.text.now ++ high.back.now) a.front ∙ ap (λ t. f ++ t) (chars-append c.args.text.now high.back.now c.utf8.text) in
    c.in_ok-stretch.ensures.text ∙ ap (text_with kept low.number (high.number + 1)) w
    ∙ text-replaced kept low.number high.number from to f (code_points low.back.now) (code_points high.front.now) b a.there z.there a.own z.own a.place z.place points

pub returns-clause-bytes : goal.returns-clause-bytes
returns-clause-bytes g c =
    let bs = c.args.blocks.now in
    let kept = texts_in bs in
    let from = c.args.from in
    let to = c.args.to in
    let points = code_points c.args.text.now in
    let a = c.place_at-first.ensures.parted in
    let z = c.place_behind-last.ensures.parted in
    let more = bytes-front (concat kept) from to c.requires.order in
    let few = bytes-some (concat kept) to in
    let all = bytes-replaced (concat kept) points from to c.requires.order in
    let text = ap length (encodes-chars c.args.text.now c.utf8.text) in
    omega (arith, all, text, a.bytes, z.bytes, more, few, c.requires.bytes)

pub returns-clause-first : goal.returns-clause-first
returns-clause-first g c =
    let bs = c.args.blocks.now in
    let kept = texts_in bs in
    let from = c.args.from in
    let to = c.args.to in
    let a = c.place_at-first.ensures.parted in
    let low = c.place_at-first.result in
    let more = bytes-front (concat kept) from to c.requires.order in
    of-first kept from low.number c.in_ok-stretch.stretch.from (is-paragraph kept low.number from (code_points low.front.now) (code_points low.back.now) a.there a.own a.place a.more) c.in_ok-stretch.ensures.from

pub returns-clause-last : goal.returns-clause-last
returns-clause-last g c =
    let bs = c.args.blocks.now in
    let kept = texts_in bs in
    let from = c.args.from in
    let to = c.args.to in
    let z = c.place_behind-last.ensures.parted in
    let high = c.place_behind-last.result in
    let more = bytes-front (concat kept) from to c.requires.order in
    let same : high.number ≡ c.in_ok-stretch.stretch.to - 1 = omega (arith, c.in_ok-stretch.ensures.to) in
    subst (IsParagraphOf kept to) same (is-paragraph kept high.number to (code_points high.front.now) (code_points high.back.now) z.there z.own z.place z.more)

pub returns-clause-too_long : goal.returns-clause-too_long
returns-clause-too_long g c =
    let bs = c.args.blocks.now in
    let kept = texts_in bs in
    let from = c.args.from in
    let to = c.args.to in
    let points = code_points c.args.text.now in
    let a = c.place_at-first.ensures.parted in
    let z = c.place_behind-last.ensures.parted in
    let more = bytes-front (concat kept) from to c.requires.order in
    let few = bytes-some (concat kept) to in
    let all = bytes-replaced (concat kept) points from to c.requires.order in
    let text = ap length (encodes-chars c.args.text.now c.utf8.text) in
    (λ e. absurd (ok-fits _ _ refl e), λ m. absurd (omega (arith, all, text, a.bytes, z.bytes, more, few, c.requires.bytes, c.requires.few, c.if-text-others.false, m)))

pub overflow_add-places : goal.overflow_add-places
overflow_add-places g c =
    let kept = texts_in c.args.blocks.now in
    let points = code_points c.args.text.now in
    let a = c.place_at-first.ensures in
    let size : c.count-more.result ≡ length points = search (rules, chars_from_encodes) in
    let bytes = ap length (encodes-chars c.args.text.now c.utf8.text) in
    omega (arith, a.offset, a.parted.place, c.requires.order, c.requires.within, places-few (concat kept), c.requires.fits.bytes, size, places-few points, bytes, c.if-text-others.false)

pub overflow_add-places-2 : goal.overflow_add-places-2
overflow_add-places-2 g c =
    let kept = texts_in c.args.blocks.now in
    let points = code_points c.args.text.now in
    let a = c.place_at-first.ensures in
    let z = c.place_behind-last.ensures in
    let high = c.place_behind-last.result in
    let size : c.count-more.result ≡ length points = search (rules, chars_from_encodes) in
    let bytes = ap length (encodes-chars c.args.text.now c.utf8.text) in
    let own = ap length z.parted.own in
    let both = length-append (code_points high.front.now) (code_points high.back.now) in
    omega (arith, a.offset, a.parted.place, c.requires.order, c.requires.within, places-few (concat kept), c.requires.fits.bytes, size, places-few points, bytes, c.if-text-others.false, z.rest, own, both, places-at kept high.number z.parted.there)

pub returns-clause-one : goal.returns-clause-one
returns-clause-one g c =
    let bs = c.args.blocks.now in
    let kept = texts_in bs in
    let points = code_points c.args.text.now in
    let a = c.place_at-first.ensures.parted in
    let z = c.place_behind-last.ensures.parted in
    let low = c.place_at-first.result in
    let high = c.place_behind-last.result in
    let f = code_points low.front.now in
    let b = code_points high.back.now in
    let w = ap code_points c.in_ok-whole.ensures ∙ chars-append low.front.now (c.args.text.now ++ high.back.now) a.front ∙ ap (λ t. f ++ t) (chars-append c.args.text.now high.back.now c.utf8.text) in
    let tables = c.args.tables.now in
    let s = c.in_ok-stretch.stretch in
    let made = c.in_ok-stretch.ensures in
    let one = c.stays_one-one.ensures in
    let is = split-parts tables kept (utf8-kept bs) c.requires.split in
    let bytes = string_bytes s.text in
    let all = points-parts tables bytes (IsUtf8-string_bytes s.text) in
    let shown = λ (n : ℕ) (ps : List (List ℕ)). cond (nat_eq n (length kept)) ps (take (length ps - 1) ps) in
    let size : c.count-more.result ≡ length points = search (rules, chars_from_encodes) in
    let told = told-if (IsOne tables (nat_eq s.to (length kept)) bytes) c.stays_one-one.result (low.offset + c.count-more.result + high.rest) (λ h.
    let same = ap code_points (made.same (one.from h)) ∙ w in
    let last = one.last h in
    let own = z.own ∙ ap (λ n. get_or kept n []) last in
    let order : length f ≤ length (code_points high.front.now) = omega (arith, a.place, z.place, c.requires.order, ap (λ n. length (concat (take n kept))) last) in
    let whole = whole-stretch tables kept is low.number a.there f (code_points low.back.now) (code_points high.front.now) b points a.own own order (λ more. z.more (omega (arith, last, more))) (one.front h) (one.text h) in
    record {
      count = omega (arith, c.place_at-first.ensures.offset, size, c.place_behind-last.ensures.rest, ap length same, length-append f (points ++ b), length-append points b);
      alone = ap₂ shown (made.to ∙ ap (λ n. n + 1) last) (all ∙ ap (parts (bidi_of tables)) same) ∙ whole ∙ ap (λ x. x ∷ []) (sym same);
    }) in
    subst (λ x. IfSome x (IsOne tables (nat_eq s.to (length kept)) bytes)) (sym c.then_some.ensures) told
