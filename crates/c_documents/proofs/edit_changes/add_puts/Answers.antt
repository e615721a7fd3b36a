-- One more character is put.
use Rattle.std.proofs.Common.{◌≡◌, ◌+◌, ◌++◌, ◌∷◌, [], length, sym, ap, ◌∙◌, append_assoc, arith}
use Rattle.std.proofs.lemmas.List.{append-nil}
use Rattle.std.proofs.lemmas.Str.{chars-nil, chars_past_char, IsUtf8-past_char}
use Rattle.std.specs.Str.{chars}
use Rattle.std.specs.Str.Iter.{chars_rest}
use Rattle.bg_types.specs.declared.change.Change.TheVariants.{Put}
use Rattle.text_buffer.specs.Edits.{puts_at}
use Rattle.c_desks.proofs.Interface.{none_of}
use Rattle.c_documents.proofs.edit_changes.add_puts.Goals as goal

pub loop-ch-preserved : goal.loop-ch-preserved
loop-ch-preserved c =
    let now = c.loop-ch.invariant in
    let rest = chars_rest c.loop-ch.left in
    let after = chars_rest c.next.new.self in
    let ch = c.in-Some.ch in
    let place = c.loop-ch.place in
    let is = c.in-Some.ensures.steps.0 in
    let first = chars_past_char rest after ch now.utf8 is in
    let one = ap length first in
    record {
      utf8 = IsUtf8-past_char rest after ch now.utf8 is;
      items = ap (λ l. l ++ puts_at (place + 1) (chars after)) c.push_reserved.ensures.items ∙ append_assoc c.loop-ch.told.items (Put place ch ∷ []) (puts_at (place + 1) (chars after))
          ∙ ap (λ l. c.loop-ch.told.items ++ puts_at place l) (sym first) ∙ now.items;
      room = omega (arith, one, now.room, c.push_reserved.ensures.len, c.push_reserved.ensures.capacity);
      end = omega (arith, one, now.end);
    }

pub returns : goal.returns
returns c =
    let told = c.loop-ch.told.items in
    let place = c.loop-ch.place in
    let none = none_of (chars_rest c.loop-ch.left) c.in_default.ensures.steps.0.0 in
    let nil : puts_at place (chars (chars_rest c.loop-ch.left)) ≡ [] = ap (λ rest. puts_at place (chars rest)) none ∙ ap (puts_at place) chars-nil in
    sym (append-nil told) ∙ ap (λ l. told ++ l) (sym nil) ∙ c.loop-ch.invariant.items
