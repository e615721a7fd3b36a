-- A file is read as one list of operations, or has one flaw.
use Rattle.std.proofs.Common.{◌≡◌, ℕ, List, refl, subst, arith}
use Rattle.std.proofs.lemmas.List.{take_all}
use Rattle.bg_types.specs.declared.op.OpView.{OpView}
use Rattle.op_codec.specs.declared.fault.Cause.{Cause}
use Rattle.op_codec.specs.Spelling.{Spells}
use Rattle.op_codec.specs.Fault.{IsFault}
use Rattle.desk_files.specs.Reading.{limit, IsReadAs, Flaw, malformed, too_long, IsFlawed}
use Rattle.desk_files.proofs.LowerLaws.{FileLaws}

module _ (one_list : (file : List ℕ) (a b : List OpView) → Spells file a → Spells file b → a ≡ b)
    (never_both : (file : List ℕ) (ops : List OpView) (frame : ℕ) (cause : Cause) → Spells file ops → IsFault file frame cause → ⊥)
    (one_fault : (file : List ℕ) (m n : ℕ) (c d : Cause) → IsFault file m c → IsFault file n d → (m ≡ n) × (c ≡ d)) where
  apart : (file : List ℕ) (ops : List OpView) (flaw : Flaw) → IsReadAs file ops → IsFlawed file flaw → ⊥
  apart file ops (malformed frame cause) read h = never_both file ops frame cause read.spelled (subst (λ f. IsFault f frame cause) (take_all limit file read.within) h.0)
  apart file ops too_long read h = let within = read.within in let longer = h.0 in absurd (omega (arith, within, longer))

  one_flaw : (file : List ℕ) (f g : Flaw) → IsFlawed file f → IsFlawed file g → f ≡ g
  one_flaw file (malformed m c) (malformed n d) a b = let one = one_fault _ m n c d a.0 b.0 in λ i. malformed (one.0 i) (one.1 i)
  one_flaw file (malformed m c) too_long a b = absurd (a.1 b.0 (b.1 m c a.0))
  one_flaw file too_long (malformed n d) a b = absurd (b.1 a.0 (a.1 n d b.0))
  one_flaw file too_long too_long a b = refl

  pub file_laws : FileLaws
  file_laws = record { one_list = λ file a b x y. one_list file a b x.spelled y.spelled; never_both = apart; one_flaw = one_flaw }
