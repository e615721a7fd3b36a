-- A listing lists at most one list of operations, has at most one first faulty line, and never both; how one is written.
use Rattle.std.proofs.Common.{◌≡◌, ℕ, ◌+◌, ◌<◌, List, [], ◌∷◌, ◌++◌, length, get_or, take, sym, ap, ◌∙◌, append-nil}
use Rattle.std.specs.Str.Lines.{lines}
use Rattle.std.proofs.lemmas.List.{take_more}
use Rattle.std.proofs.lemmas.List.Concat.{flat_map-append}
use Rattle.bg_types.specs.declared.op.OpView.{OpView}
use Rattle.op_listing.specs.declared.line_fault.LineFault.{LineFault}
use Rattle.op_listing.specs.Line.{line_fault}
use Rattle.op_listing.specs.Listing.{line_of, listing_of}
use Rattle.op_listing.specs.Listed.{Lists, IsFaultyLine}
use Rattle.op_listing.proofs.FirstFault.{never_both, one_fault}

pub one_listed : (bytes : List ℕ) (xs ys : List OpView) → Lists bytes xs → Lists bytes ys → xs ≡ ys
one_listed bytes xs ys a b = a.written ∙ sym b.written

pub listed_apart : (bytes : List ℕ) (ops : List OpView) (n : ℕ) (fault : LineFault) → Lists bytes ops → IsFaultyLine bytes n fault → ⊥
listed_apart bytes ops n fault a h = never_both line_fault (lines bytes) n fault a.faultless h

pub one_faulty_line : (bytes : List ℕ) (m n : ℕ) (f g : LineFault) → IsFaultyLine bytes m f → IsFaultyLine bytes n g → (m ≡ n) × (f ≡ g)
one_faulty_line bytes m n f g a b = one_fault line_fault (lines bytes) m n f g a b

-- ---- written line by line

pub listing-more : (ops : List OpView) (i : ℕ) (op : OpView) → i < length ops → op ≡ get_or ops i op → listing_of (take i ops) ++ line_of op ≡ listing_of (take (i + 1) ops)
listing-more ops i op within is =
    let one : op ∷ [] ≡ get_or ops i op ∷ [] = ap (λ (o : OpView). o ∷ []) is in
    ap (λ (s : List ℕ). listing_of (take i ops) ++ s) (sym (append-nil (line_of op)))
    ∙ sym (flat_map-append line_of (take i ops) (op ∷ []))
    ∙ ap (λ (more : List OpView). listing_of (take i ops ++ more)) one
    ∙ ap listing_of (sym (take_more ops i op within))
