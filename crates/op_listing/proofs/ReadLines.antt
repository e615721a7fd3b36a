-- Reading the lines of a listing one after the other.
use Rattle.std.proofs.Common.{◌≡◌, ℕ, ◌+◌, List, [], ◌∷◌, ◌++◌, None, sym, ap, ◌∙◌}
use Rattle.std.specs.List.{flat_map}
use Rattle.std.specs.Str.Lines.{lines}
use Rattle.std.proofs.lemmas.List.{append-nil}
use Rattle.std.proofs.lemmas.List.Concat.{flat_map-append}
use Rattle.bg_types.specs.declared.op.OpView.{OpView}
use Rattle.op_listing.specs.FirstFault.{AreRead}
use Rattle.op_listing.specs.Line.{line_fault}
use Rattle.op_listing.specs.Listed.{line_operations}
use Rattle.op_listing.proofs.FirstFault.{more}

-- the lines before the rest are read: this many, none faulty, and they write these operations
pub record IsReadTo (text rest : List ℕ) (number : ℕ) (ops : List OpView) : Type 0 where
  pub done : List (List ℕ)
  pub read : AreRead line_fault text rest number done
  pub written : ops ≡ flat_map line_operations done

-- one more line is read, and may write an operation
pub one_line_read : (text rest after line : List ℕ) (number : ℕ) (ops written : List OpView) → IsReadTo text rest number ops → lines rest ≡ line ∷ lines after
    → line_fault line ≡ None → line_operations line ≡ written → IsReadTo text after (number + 1) (ops ++ written)
one_line_read text rest after line number ops written h first faultless is = record {
  done = h.done ++ line ∷ [];
  read = more line_fault text rest after line number h.done h.read first faultless;
  written =
      let grown : flat_map line_operations (h.done ++ line ∷ []) ≡ flat_map line_operations h.done ++ line_operations line =
      flat_map-append line_operations h.done (line ∷ []) ∙ ap (λ (s : List OpView). flat_map line_operations h.done ++ s) (append-nil (line_operations line)) in
      (λ i. h.written i ++ sym is i) ∙ sym grown;
}
