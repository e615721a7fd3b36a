-- Files hold one set of operations, or have one first faulty file, or one first refusal: these exclude each other.
use Rattle.std.proofs.Common.{◌≡◌, ℕ, suc, ◌+◌, ◌≤◌, List, [], ◌∷◌, ◌++◌, length, refl, sym, ap, subst, ◌∙◌}
use Rattle.std.specs.List.{AllZip}
use Rattle.bg_types.specs.OperationSet.{OperationSet, size}
use Rattle.bg_types.specs.declared.op.OpView.{OpView}
use Rattle.desk_replica.specs.declared.answer.TakeFault.{TakeFault}
use Rattle.desk_replica.specs.SetOf.{IsSetOf}
use Rattle.desk_replica.specs.Refusal.{IsFirstRefusal}
use Rattle.desk_files.specs.Reading.{IsReadAs, Flaw, IsFlawed}
use Rattle.desk_files.specs.Files.{joined, IsSetOfFiles, IsFaultyFile, AreRefused}
use Rattle.desk_files.proofs.LowerLaws.{FileLaws, ListLaws}

spelled_one : (before after : List (List ℕ)) (file : List ℕ) (lists : List (List OpView)) → AllZip IsReadAs (before ++ file ∷ after) lists → (ops : List OpView) × IsReadAs file ops
spelled_one [] after file [] h = absurd h
spelled_one [] after file (ops ∷ lists) h = (ops, h.0)
spelled_one (x ∷ before) after file [] h = absurd h
spelled_one (x ∷ before) after file (ops ∷ lists) h = spelled_one before after file lists h.1

record AreOne (m n : ℕ) (f g : Flaw) : Type 0 where
  number : m ≡ n
  flaws : f ≡ g

module _ (codec : FileLaws) where
  pub one_lists : (files : List (List ℕ)) (xs ys : List (List OpView)) → AllZip IsReadAs files xs → AllZip IsReadAs files ys → xs ≡ ys
  one_lists [] [] [] a b = refl
  one_lists [] [] (y ∷ ys) a b = absurd b
  one_lists [] (x ∷ xs) ys a b = absurd a
  one_lists (file ∷ files) [] ys a b = absurd a
  one_lists (file ∷ files) (x ∷ xs) [] a b = absurd b
  one_lists (file ∷ files) (x ∷ xs) (y ∷ ys) a b = λ i. codec.one_list file x y a.0 b.0 i ∷ one_lists files xs ys a.1 b.1 i

  -- ---- no set or refusal where a file is faulty

  pub faulty_apart : (files : List (List ℕ)) (lists : List (List OpView)) (n : ℕ) (flaw : Flaw) → AllZip IsReadAs files lists → IsFaultyFile files n flaw → ⊥
  faulty_apart files lists n flaw spelled h =
      let one = spelled_one h.before h.after h.file lists (subst (λ fs. AllZip IsReadAs fs lists) h.in_order spelled) in
      codec.never_both h.file one.0 flaw one.1 h.shown

  -- ---- one first faulty file

  first_of_two : (before before' : List (List ℕ)) (file file' : List ℕ) (after after' : List (List ℕ)) (lists lists' : List (List OpView)) (f g : Flaw)
      → before ++ file ∷ after ≡ before' ++ file' ∷ after' → AllZip IsReadAs before lists → AllZip IsReadAs before' lists' → IsFlawed file f → IsFlawed file' g → AreOne (length before) (length before') f g
  first_of_two [] [] file file' after after' lists lists' f g e a b p q =
      let same : file' ≡ file = cc in
      record { number = refl; flaws = codec.one_flaw file f g p (subst (λ x. IsFlawed x g) same q) }
  first_of_two [] (x ∷ before') file file' after after' lists [] f g e a b p q = absurd b
  first_of_two [] (x ∷ before') file file' after after' lists (ops ∷ lists') f g e a b p q =
      let same : x ≡ file = cc in absurd (codec.never_both file ops f (subst (λ x. IsReadAs x ops) same b.0) p)
  first_of_two (x ∷ before) [] file file' after after' [] lists' f g e a b p q = absurd a
  first_of_two (x ∷ before) [] file file' after after' (ops ∷ lists) lists' f g e a b p q =
      let same : x ≡ file' = cc in absurd (codec.never_both file' ops g (subst (λ x. IsReadAs x ops) same a.0) q)
  first_of_two (x ∷ before) (y ∷ before') file file' after after' [] lists' f g e a b p q = absurd a
  first_of_two (x ∷ before) (y ∷ before') file file' after after' (ops ∷ lists) [] f g e a b p q = absurd b
  first_of_two (x ∷ before) (y ∷ before') file file' after after' (ops ∷ lists) (ops' ∷ lists') f g e a b p q =
      let rest : before ++ file ∷ after ≡ before' ++ file' ∷ after' = cc in
      let one = first_of_two before before' file file' after after' lists lists' f g rest a.1 b.1 p q in
      record { number = ap suc one.number; flaws = one.flaws }

  pub one_faulty : (files : List (List ℕ)) (m n : ℕ) (f g : Flaw) → IsFaultyFile files m f → IsFaultyFile files n g → (m ≡ n) × (f ≡ g)
  one_faulty files m n f g a b =
      let one = first_of_two a.before b.before a.file b.file a.after b.after a.lists b.lists f g (sym a.in_order ∙ b.in_order) a.spelled b.spelled a.shown b.shown in
      (a.number ∙ ap (λ k. k + 1) one.number ∙ sym b.number, one.flaws)

  -- ---- one set, or one first refusal

  module _ (lists : ListLaws) (files : List (List ℕ)) where
    pub one_set : (s t : OperationSet) → IsSetOfFiles files s → IsSetOfFiles files t → s ≡ t
    one_set s t a b =
        let same = one_lists files b.lists a.lists b.spelled a.spelled in
        lists.one_set (joined a.lists) s t a.of_all (subst (λ l. IsSetOf (joined l) t) same b.of_all)

    pub refusal_apart : (s : OperationSet) (fault : TakeFault) → IsSetOfFiles files s → size s ≤ 1_000_000 → AreRefused files fault → ⊥
    refusal_apart s fault a limited b =
        let same = one_lists files b.lists a.lists b.spelled a.spelled in
        lists.none_refused (joined a.lists) s fault a.of_all limited (subst (λ l. IsFirstRefusal (joined l) fault) same b.first)

    pub one_refused : (f g : TakeFault) → AreRefused files f → AreRefused files g → f ≡ g
    one_refused f g a b =
        let same = one_lists files b.lists a.lists b.spelled a.spelled in
        lists.one_refusal (joined a.lists) f g a.first (subst (λ l. IsFirstRefusal (joined l) g) same b.first)
