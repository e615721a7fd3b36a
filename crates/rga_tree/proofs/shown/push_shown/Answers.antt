-- The goals of `push_shown` that are answered by hand.
use Rattle.std.proofs.Common.{◌≡◌, ◌++◌, sym, ap, ◌∙◌, append_assoc, take}
use Rattle.std.proofs.lemmas.List.{take-append-drop}
use Rattle.std.specs.Prelude.{string_bytes}
use Rattle.rga_tree.proofs.Texts.{bytes_of, bytes-append}
use Rattle.rga_tree.proofs.shown.push_shown.Goals as goal

pub loop-rest-preserved : goal.loop-rest-preserved
loop-rest-preserved c =
    let read = string_bytes c.loop-rest.read in
    let rest = c.loop-rest.rest.now in
    let piece = c.split_at.result.0.now in
    let after = c.split_at.result.1.now in
    let parted : piece ++ after ≡ rest =
    ap (λ p. p ++ after) c.split_at.ensures.front ∙ ap (λ q. take c.min.result rest ++ q) c.split_at.ensures.back
    ∙ take-append-drop c.min.result rest in
    ap (λ t. t ++ bytes_of after) (c.in_ok-push_bytes.ensures.ok ∙ ap (λ t. read ++ t) c.encode_shown-end.ensures.bytes) ∙ append_assoc read (bytes_of piece) (bytes_of after)
    ∙ ap (λ t. read ++ t) (sym (bytes-append piece after) ∙ ap bytes_of parted) ∙ c.loop-rest.invariant
