-- What is held of a print, piece by piece.
use Rattle.std.proofs.Common.{◌≡◌, ℕ, List, [], ◌++◌, Option, sym, ap, ◌∙◌, append_assoc, append-nil}
use Rattle.std.proofs.KnownBytes.{Appends-nil, Appends-trans}
use Rattle.std.specs.Io.KnownBytes.{Appends}
use Rattle.bg_types.specs.Sink.{AppendsBeginning}
use Rattle.cell_grid.specs.Held.{AppendsAllBut}
use Rattle.cell_grid.proofs.Writing.{Appends-on, Begins-on}

-- nothing is printed yet
pub but-start : (known : Option (List ℕ)) (held : List ℕ) → AppendsAllBut known known (held ++ []) held
but-start known held = record { written = []; appends = Appends-nil known; whole = append-nil held }

-- nothing is held
pub but-none : (old new : Option (List ℕ)) (bytes : List ℕ) → Appends old new bytes → AppendsAllBut old new bytes []
but-none old new bytes a = record { written = bytes; appends = a; whole = sym (append-nil bytes) }

-- a beginning of a part is one of the whole
pub begins-longer : (old new : Option (List ℕ)) (part rest whole : List ℕ) → AppendsBeginning old new part → whole ≡ part ++ rest → AppendsBeginning old new whole
begins-longer old new part rest whole b e = Begins-on old old new [] part rest whole (Appends-nil old) b e

module _ (old mid new : Option (List ℕ)) (bytes held : List ℕ) (a : AppendsAllBut old mid bytes held) where
  -- one more piece
  pub but-on : (more last whole : List ℕ) → AppendsAllBut mid new (held ++ more) last → whole ≡ bytes ++ more → AppendsAllBut old new whole last
  but-on more last whole b e = record {
    written = a.written ++ b.written;
    appends = Appends-trans old mid new a.written b.written a.appends b.appends;
    whole = e ∙ ap (λ t. t ++ more) a.whole ∙ append_assoc a.written held more ∙ ap (λ t. a.written ++ t) b.whole ∙ sym (append_assoc a.written b.written last);
  }

  -- a beginning of one more piece
  pub but-cut : (more rest whole : List ℕ) → AppendsBeginning mid new (held ++ more) → whole ≡ bytes ++ (more ++ rest) → AppendsBeginning old new whole
  but-cut more rest whole b e =
      Begins-on old mid new a.written (held ++ more) rest whole a.appends b
      (e ∙ ap (λ t. t ++ (more ++ rest)) a.whole ∙ append_assoc a.written held (more ++ rest) ∙ ap (λ t. a.written ++ t) (sym (append_assoc held more rest)))

  -- what was held is written
  pub but-end : Appends mid new held → Appends old new bytes
  but-end b = Appends-on old mid new a.written held bytes a.appends b a.whole

  pub but-cut_end : AppendsBeginning mid new held → AppendsBeginning old new bytes
  but-cut_end b = Begins-on old mid new a.written held [] bytes a.appends b (a.whole ∙ ap (λ t. a.written ++ t) (sym (append-nil held)))

-- of what is left the first piece is done
pub but-through : (old mid new : Option (List ℕ)) (bytes held more rest last : List ℕ) → AppendsAllBut old mid bytes (held ++ (more ++ rest)) → AppendsAllBut mid new (held ++ more) last
    → AppendsAllBut old new bytes (last ++ rest)
but-through old mid new bytes held more rest last a b = record {
  written = a.written ++ b.written;
  appends = Appends-trans old mid new a.written b.written a.appends b.appends;
  whole =
      a.whole ∙ ap (λ t. a.written ++ t) (sym (append_assoc held more rest) ∙ ap (λ t. t ++ rest) b.whole ∙ append_assoc b.written last rest)
      ∙ sym (append_assoc a.written b.written (last ++ rest));
}

-- of what is left a beginning of the first piece is done
pub but-cut_through : (old mid new : Option (List ℕ)) (bytes held more rest : List ℕ) → AppendsAllBut old mid bytes (held ++ (more ++ rest)) → AppendsBeginning mid new (held ++ more)
    → AppendsBeginning old new bytes
but-cut_through old mid new bytes held more rest a b =
    but-cut_end old mid new bytes (held ++ (more ++ rest)) a (begins-longer mid new (held ++ more) rest (held ++ (more ++ rest)) b (sym (append_assoc held more rest)))
