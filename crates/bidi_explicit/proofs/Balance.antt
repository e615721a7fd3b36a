-- The PDI that the tree gives an initiator is the first after it at which initiators and PDIs balance.
use Rattle.std.proofs.Common.{ℕ, zero, suc, ◌≡◌, ◌+◌, ◌==◌, ◌&&◌, inl, inr, cond, refl, ap, ap₂, sym, ◌∙◌, List, [], ◌∷◌, length, take, Option, Some, None, Bool, true, false, add-one, zero-add, arith}
use Rattle.std.specs.Prelude.{count_by, find, slice_get}
use Rattle.std.specs.List.{range_with_len}
use Rattle.std.proofs.Math.Path.{fun_ext}
use Rattle.std.proofs.lemmas.Bool.Decides.{eqb_tells}
use Rattle.std.proofs.lemmas.List.Sums.{sum_by-cons}
use Rattle.bg_types.specs.declared.class.Bidi.{Bidi}
use Rattle.bg_types.specs.declared.class.Bidi.TheVariants.{Lri, Rli, Fsi, Pdi}
use Rattle.bidi_explicit.specs.declared.controls.OpenPdi.{OpenPdi}
use Rattle.bidi_explicit.specs.Nesting.{is_initiator, nest, held_count}
use Rattle.bidi_explicit.specs.Sequences.{below}
use Rattle.bidi_explicit.specs.Frames.{is_pdi}
use Rattle.bidi_explicit.specs.Laws.{is_pdi_at, balances}
use Rattle.bidi_explicit.specs.Controls.{own_pdis, without_nearest, nearest}
use Rattle.bidi_explicit.proofs.Matching.{behind-step, control-by}

-- a PDI stands at n, and before it k PDIs more than initiators
abbrev bal : ℕ → List Bidi → ℕ → Bool
bal k cs n = is_pdi_at cs n && (k + count_by is_initiator (take n cs) == count_by is_pdi (take n cs))

-- the first such place, by counting, where the list begins at i
abbrev scan : ℕ → ℕ → List Bidi → Option ℕ
scan k i [] = None
scan k i (Lri ∷ cs) = scan (suc k) (suc i) cs
scan k i (Rli ∷ cs) = scan (suc k) (suc i) cs
scan k i (Fsi ∷ cs) = scan (suc k) (suc i) cs
scan zero i (Pdi ∷ cs) = Some i
scan (suc k) i (Pdi ∷ cs) = scan k (suc i) cs
scan k i (c ∷ cs) = scan k (suc i) cs

-- the PDI with number k of a list
abbrev nth : ℕ → List OpenPdi → Option ℕ
nth k ps = elim (slice_get ps k) [ Some p ↦ Some p.place | None ↦ None ]

nth-rest : (k : ℕ) (ps : List OpenPdi) → nth k (without_nearest ps).pdis ≡ nth (suc k) ps
nth-rest k [] = refl
nth-rest k (p ∷ ps) = refl

nth-zero : (ps : List OpenPdi) → nearest ps ≡ nth 0 ps
nth-zero [] = refl
nth-zero (p ∷ ps) = refl

nth-scan : (k i : ℕ) (cs : List Bidi) → nth k (own_pdis i (nest cs)) ≡ scan k i cs
nth-scan k i [] = refl
nth-scan k i (Lri ∷ cs) = ap (λ b. nth k b.pdis) (behind-step i Lri cs) ∙ nth-rest k (own_pdis (suc i) (nest cs)) ∙ nth-scan (suc k) (suc i) cs
nth-scan k i (Rli ∷ cs) = ap (λ b. nth k b.pdis) (behind-step i Rli cs) ∙ nth-rest k (own_pdis (suc i) (nest cs)) ∙ nth-scan (suc k) (suc i) cs
nth-scan k i (Fsi ∷ cs) = ap (λ b. nth k b.pdis) (behind-step i Fsi cs) ∙ nth-rest k (own_pdis (suc i) (nest cs)) ∙ nth-scan (suc k) (suc i) cs
nth-scan zero i (Pdi ∷ cs) = refl
nth-scan (suc k) i (Pdi ∷ cs) = nth-scan k (suc i) cs
nth-scan k i (c ∷ cs) = nth-scan k (suc i) cs

-- one place further
abbrev shift : Option ℕ → Option ℕ
shift (Some n) = Some (suc n)
shift None = None

scan-shift : (k i : ℕ) (cs : List Bidi) → scan k (suc i) cs ≡ shift (scan k i cs)
scan-shift k i [] = refl
scan-shift k i (Lri ∷ cs) = scan-shift (suc k) (suc i) cs
scan-shift k i (Rli ∷ cs) = scan-shift (suc k) (suc i) cs
scan-shift k i (Fsi ∷ cs) = scan-shift (suc k) (suc i) cs
scan-shift zero i (Pdi ∷ cs) = refl
scan-shift (suc k) i (Pdi ∷ cs) = scan-shift k (suc i) cs
scan-shift k i (c ∷ cs) = scan-shift k (suc i) cs

cond-shift : (b : Bool) (x y : Option ℕ) → shift (cond b x y) ≡ cond b (shift x) (shift y)
cond-shift true x y = refl
cond-shift false x y = refl

find-shift : (p : ℕ → Bool) (a n : ℕ) → find p (range_with_len (a + 1) n) ≡ shift (find (λ m. p (suc m)) (range_with_len a n))
find-shift p a zero = refl
find-shift p a (suc n) =
    ap (λ k. cond (p k) (Some k) (find p (range_with_len (a + 1 + 1) n))) (add-one a)
    ∙ ap (cond (p (suc a)) (Some (suc a))) (find-shift p (a + 1) n)
    ∙ sym (cond-shift (p (suc a)) (Some a) (find (λ m. p (suc m)) (range_with_len (a + 1) n)))

cond-false : (b : Bool) (x y : Option ℕ) → b ≡ false → cond b x y ≡ y
cond-false true x y e = cc
cond-false false x y e = refl

found-later : (k j : ℕ) (c : Bidi) (cs : List Bidi) → bal k (c ∷ cs) 0 ≡ false → ((m : ℕ) → bal k (c ∷ cs) (suc m) ≡ bal j cs m) →
    find (bal j cs) (below (length cs)) ≡ scan j 0 cs → find (bal k (c ∷ cs)) (below (suc (length cs))) ≡ scan j 1 cs
found-later k j c cs first later ih =
    cond-false (bal k (c ∷ cs) 0) (Some 0) (find (bal k (c ∷ cs)) (range_with_len (0 + 1) (length cs))) first
    ∙ find-shift (bal k (c ∷ cs)) 0 (length cs)
    ∙ ap shift (ap (λ p. find p (below (length cs))) (fun_ext later) ∙ ih)
    ∙ sym (scan-shift j 0 cs)

same_test : (a b c d : ℕ) → (a ≡ b → c ≡ d) → (c ≡ d → a ≡ b) → (a == b) ≡ (c == d)
same_test a b c d there back =
    elim (eqb_tells a b) [
      | inl h ↦ elim (eqb_tells c d) [ inl g ↦ h.0 ∙ sym g.0 | inr g ↦ absurd (g.1 (there h.1)) ]
      | inr h ↦ elim (eqb_tells c d) [ inl g ↦ absurd (h.1 (back g.1)) | inr g ↦ h.0 ∙ sym g.0 ]
    ]

-- what the first character adds to the counts
stepped : (k j : ℕ) (c : Bidi) (cs : List Bidi) →
    ((x y : ℕ) → (k + (cond (is_initiator c) 1 0 + x) == cond (is_pdi c) 1 0 + y) ≡ (j + x == y)) → (m : ℕ) → bal k (c ∷ cs) (suc m) ≡ bal j cs m
stepped k j c cs h m =
    ap (λ b. is_pdi_at cs m && b)
    (ap₂ (λ x y. k + x == y) (sum_by-cons (λ d. cond (is_initiator d) 1 0) c (take m cs)) (sum_by-cons (λ d. cond (is_pdi d) 1 0) c (take m cs))
    ∙ h (count_by is_initiator (take m cs)) (count_by is_pdi (take m cs)))

one_in : (k x y : ℕ) → (k + (1 + x) == 0 + y) ≡ (suc k + x == y)
one_in k x y = same_test (k + (1 + x)) (0 + y) (suc k + x) y (λ e. omega arith) (λ e. omega arith)

one_out : (k x y : ℕ) → (suc k + (0 + x) == 1 + y) ≡ (k + x == y)
one_out k x y = same_test (suc k + (0 + x)) (1 + y) (k + x) y (λ e. omega arith) (λ e. omega arith)

no_change : (k x y : ℕ) → (k + (0 + x) == 0 + y) ≡ (k + x == y)
no_change k x y = same_test (k + (0 + x)) (0 + y) (k + x) y (λ e. omega arith) (λ e. omega arith)

no_match : (k : ℕ) → (true && (suc k + 0 == 0)) ≡ false
no_match k = elim (eqb_tells (suc k + 0) 0) [ inl h ↦ (let e = h.1 in absurd (omega arith)) | inr h ↦ h.0 ]

find-scan : (k : ℕ) (cs : List Bidi) → find (bal k cs) (below (length cs)) ≡ scan k 0 cs
find-scan k [] = refl
find-scan k (Lri ∷ cs) = found-later k (suc k) Lri cs refl (stepped k (suc k) Lri cs (one_in k)) (find-scan (suc k) cs)
find-scan k (Rli ∷ cs) = found-later k (suc k) Rli cs refl (stepped k (suc k) Rli cs (one_in k)) (find-scan (suc k) cs)
find-scan k (Fsi ∷ cs) = found-later k (suc k) Fsi cs refl (stepped k (suc k) Fsi cs (one_in k)) (find-scan (suc k) cs)
find-scan zero (Pdi ∷ cs) = refl
find-scan (suc k) (Pdi ∷ cs) = found-later (suc k) k Pdi cs (no_match k) (stepped (suc k) k Pdi cs (one_out k)) (find-scan k cs)
find-scan k (c ∷ cs) = found-later k k c cs refl (stepped k k c cs (no_change k)) (find-scan k cs)

one_further : (o : Option ℕ) → elim o [ Some n ↦ Some (suc 0 + n) | None ↦ None ] ≡ shift o
one_further (Some n) = ap Some (let e : 1 + n ≡ suc n = omega arith in e)
one_further None = refl

shift-injective : (a b : Option ℕ) → shift a ≡ shift b → a ≡ b
shift-injective (Some m) (Some n) e = cc
shift-injective (Some m) None e = cc
shift-injective None (Some n) e = cc
shift-injective None None e = refl

held-scan : (rest : List Bidi) → held_count rest ≡ scan 0 0 rest
held-scan rest =
    shift-injective (held_count rest) (scan 0 0 rest)
    (sym (one_further (held_count rest)) ∙ sym (ap (λ x. x.pdi) (control-by 0 Lri rest)) ∙ nth-zero (own_pdis 1 (nest rest)) ∙ nth-scan 0 1 rest ∙ scan-shift 0 0 rest)

pub matches-where-balanced : (rest : List Bidi) → held_count rest ≡ find (balances rest) (below (length rest))
matches-where-balanced rest =
    held-scan rest ∙ sym (find-scan 0 rest)
    ∙ ap (λ p. find p (below (length rest)))
    (fun_ext (λ n. ap (λ k. is_pdi_at rest n && (k == count_by is_pdi (take n rest))) (zero-add (count_by is_initiator (take n rest)))))
