-- The opportunities of a paragraph's clusters, one cluster further.
use Rattle.std.proofs.Common.{◌≡◌, ℕ, zero, suc, ◌+◌, ◌-◌, ◌<◌, ◌≤◌, Bool, true, false, cond, ◌||◌, ◌==◌, List, [], ◌∷◌, ◌++◌, map, length, take, get_or, refl, sym, ap, ◌∙◌, inl, inr, arith}
use Rattle.std.proofs.lemmas.Bool.Decides.{eqb_tells}
use Rattle.std.proofs.lemmas.List.{map-append, map_push, length-map, length_push, get_or_push, get_or_append_left, take_all}
use Rattle.std.proofs.lemmas.List.Elements.{filter-append}
use Rattle.std.specs.List.{filter, range_with_len}
use Rattle.line_break.specs.declared.cluster.Cluster.{Cluster}
use Rattle.line_break.specs.declared.opportunity.Boundary.{Boundary}
use Rattle.line_break.specs.declared.opportunity.Opportunity.{Opportunity}
use Rattle.line_break.specs.declared.status.Break.{Break}
use Rattle.line_break.specs.declared.status.Break.TheVariants.{Must}
use Rattle.line_break.specs.LineClusters.{hangs}
use Rattle.line_break.specs.Lines.{columns, is_must, is_break, status_at, is_opportunity}
use Rattle.line_break.specs.Opportunities.{boundary_at, opportunity_at, opportunities_of, before_all, behind, offered}
use Rattle.line_break.proofs.Tails.{solid, solid-push, columns-append}
use Rattle.bg_types.proofs.Interface.{two_cases}
pub use Rattle.line_break.specs.Reached.{breaks_in, end_of}

counting : (n a : ℕ) → range_with_len a (suc n) ≡ range_with_len a n ++ (a + n) ∷ []
counting zero a = let same : a ≡ a + zero = omega arith in ap (λ (k : ℕ). k ∷ []) same
counting (suc n) a =
    let same : a + 1 + n ≡ a + suc n = omega arith in
    ap (λ (l : List ℕ). a ∷ l) (counting n (a + 1) ∙ ap (λ (k : ℕ). range_with_len (a + 1) n ++ k ∷ []) same)

-- tests and functions that agree on some numbers
module _ {X : Type 0} (p q : ℕ → Bool) (f g : ℕ → X) where
  agree : (n a : ℕ) → ((k : ℕ) → a ≤ k → k < a + n → (p k ≡ q k) × (f k ≡ g k)) → map f (filter p (range_with_len a n)) ≡ map g (filter q (range_with_len a n))
  agree zero a same = refl
  agree (suc n) a same =
      let here = same a (omega arith) (omega arith) in
      let later = agree n (a + 1) (λ k low high. same k (omega arith) (omega arith)) in
      two_cases (q a)
      (λ yes.
      ap (λ (b : Bool). map f (cond b (a ∷ filter p (range_with_len (a + 1) n)) (filter p (range_with_len (a + 1) n)))) (here.0 ∙ yes)
      ∙ ap (λ (x : X). x ∷ map f (filter p (range_with_len (a + 1) n))) here.1 ∙ ap (λ (l : List X). g a ∷ l) later
      ∙ sym (ap (λ (b : Bool). map g (cond b (a ∷ filter q (range_with_len (a + 1) n)) (filter q (range_with_len (a + 1) n)))) yes))
      (λ past.
      ap (λ (b : Bool). map f (cond b (a ∷ filter p (range_with_len (a + 1) n)) (filter p (range_with_len (a + 1) n)))) (here.0 ∙ past)
      ∙ later
      ∙ sym (ap (λ (b : Bool). map g (cond b (a ∷ filter q (range_with_len (a + 1) n)) (filter q (range_with_len (a + 1) n)))) past))

same_boundary : {a b c d e f : ℕ} → a ≡ d → b ≡ e → c ≡ f
    → ◌≡◌ {A = Boundary} (record { clusters = a; columns = b; solid = c }) (record { clusters = d; columns = e; solid = f })
same_boundary p q r = cc

same_opportunity : {a b : Boundary} {m n : Bool} → a ≡ b → m ≡ n → ◌≡◌ {A = Opportunity} (record { boundary = a; must = m }) (record { boundary = b; must = n })
same_opportunity p q = cc

abbrev opportunity : Boundary → Bool → Opportunity
opportunity b must = record { boundary = b; must = must }

pub end-start : (cl : List Cluster) → cl ≡ [] → before_all ≡ end_of cl
end-start cl none = ap end_of (sym none)

pub breaks-start : (cl : List Cluster) (opportunities : List Opportunity) → cl ≡ [] → opportunities ≡ [] → opportunities ≡ breaks_in cl
breaks-start cl opportunities none e = e ∙ ap breaks_in (sym none)

take-pushed : (xs : List Cluster) (c : Cluster) (k : ℕ) → k ≤ length xs → take k (xs ++ c ∷ []) ≡ take k xs
take-pushed xs c zero le = refl
take-pushed [] c (suc k) le = absurd (omega arith)
take-pushed (x ∷ xs) c (suc k) le = ap (λ (l : List Cluster). x ∷ l) (take-pushed xs c k (omega arith))

module _ (done : List Cluster) (c : Cluster) where
  take-front : (k : ℕ) → k ≤ length done → take k (done ++ c ∷ []) ≡ take k done
  take-front k le = take-pushed done c k le

  status-front : (k : ℕ) → 1 ≤ k → k ≤ length done → status_at (done ++ c ∷ []) k ≡ status_at done k
  status-front k low high =
      let n = length-map done (λ (x : Cluster). x.after) in
      ap (λ (l : List Break). get_or l (k - 1) Must) (map_push (λ (x : Cluster). x.after) done c)
      ∙ get_or_append_left (map (λ (x : Cluster). x.after) done) (c.after ∷ []) Must (k - 1) (omega arith)

  status-last : (k : ℕ) → k ≡ length done + 1 → status_at (done ++ c ∷ []) k ≡ c.after
  status-last k e =
      let n = length-map done (λ (x : Cluster). x.after) in
      ap (λ (l : List Break). get_or l (k - 1) Must) (map_push (λ (x : Cluster). x.after) done c)
      ∙ get_or_push (map (λ (x : Cluster). x.after) done) c.after Must (k - 1) (omega arith)

  boundary-front : (k : ℕ) → k ≤ length done → boundary_at (done ++ c ∷ []) k ≡ boundary_at done k
  boundary-front k le = same_boundary refl (ap columns (take-front k le)) (ap solid (take-front k le))

  end-next : (k : ℕ) → k ≡ length done + 1 → boundary_at (done ++ c ∷ []) k ≡ behind (end_of done) c
  end-next k e =
      let n = length_push done c in
      let all : take k (done ++ c ∷ []) ≡ done ++ c ∷ [] = take_all k (done ++ c ∷ []) (omega arith) in
      let whole : take (length done) done ≡ done = take_all (length done) done (omega arith) in
      let sum = columns-append done (c ∷ []) in
      let columns_next : columns (done ++ c ∷ []) ≡ columns done + c.columns = omega arith in
      same_boundary e
      (ap columns all ∙ columns_next ∙ ap (λ (l : List Cluster). columns l + c.columns) (sym whole))
      (ap solid all ∙ solid-push done c ∙ ap (λ (l : List Cluster). cond (hangs c) (solid l) (columns l + c.columns)) (sym whole))

  pub end-on : (cl : List Cluster) (b next : Boundary) → cl ≡ done ++ c ∷ [] → b ≡ end_of done → next ≡ behind b c → next ≡ end_of cl
  end-on cl b next put is on =
      on ∙ ap (λ (x : Boundary). behind x c) is ∙ sym (end-next (length (done ++ c ∷ [])) (length_push done c)) ∙ ap end_of (sym put)

  offered-last : (k : ℕ) → k ≡ length done + 1
      → map (opportunity_at (done ++ c ∷ [])) (filter (λ (i : ℕ). is_break (status_at (done ++ c ∷ []) i)) (k ∷ [])) ≡ offered (behind (end_of done) c) c.after
  offered-last k e =
      ap (λ (b : Break). map (opportunity_at (done ++ c ∷ [])) (cond (is_break b) (k ∷ []) [])) (status-last k e)
      ∙ two_cases (is_break c.after)
      (λ yes.
      ap (λ (b : Bool). map (opportunity_at (done ++ c ∷ [])) (cond b (k ∷ []) [])) yes
      ∙ ap (λ (o : Opportunity). o ∷ []) (same_opportunity (end-next k e) (ap is_must (status-last k e)))
      ∙ sym (ap (λ (b : Bool). cond b (opportunity (behind (end_of done) c) (is_must c.after) ∷ []) []) yes))
      (λ no.
      ap (λ (b : Bool). map (opportunity_at (done ++ c ∷ [])) (cond b (k ∷ []) [])) no
      ∙ sym (ap (λ (b : Bool). cond b (opportunity (behind (end_of done) c) (is_must c.after) ∷ []) []) no))

  breaks-next : breaks_in (done ++ c ∷ []) ≡ breaks_in done ++ offered (behind (end_of done) c) c.after
  breaks-next =
      let test = λ (k : ℕ). is_break (status_at (done ++ c ∷ []) k) in
      let at = opportunity_at (done ++ c ∷ []) in
      let n = length_push done c in
      let count : length (done ++ c ∷ []) ≡ suc (length done) = omega arith in
      let last : 1 + length done ≡ length done + 1 = omega arith in
      ap (λ (n : ℕ). map at (filter test (range_with_len 1 n))) count
      ∙ ap (λ (l : List ℕ). map at (filter test l)) (counting (length done) 1)
      ∙ ap (map at) (filter-append test (range_with_len 1 (length done)) ((1 + length done) ∷ []))
      ∙ map-append at (filter test (range_with_len 1 (length done))) (filter test ((1 + length done) ∷ []))
      ∙ ap (λ (l : List Opportunity). l ++ map at (filter test ((1 + length done) ∷ [])))
      (agree test (λ (k : ℕ). is_break (status_at done k)) at (opportunity_at done) (length done) 1
      (λ k low high. (
        ap is_break (status-front k low (omega arith)),
        same_opportunity (boundary-front k (omega arith)) (ap is_must (status-front k low (omega arith))),
      )))
      ∙ ap (λ (l : List Opportunity). breaks_in done ++ l) (offered-last (1 + length done) last)

  pub breaks-on : (cl : List Cluster) (b next : Boundary) (before after : List Opportunity) → cl ≡ done ++ c ∷ [] → b ≡ end_of done → next ≡ behind b c
      → before ≡ breaks_in done → after ≡ before ++ offered next c.after → after ≡ breaks_in cl
  breaks-on cl b next before after put is on so_far e =
      e ∙ ap (λ (l : List Opportunity). l ++ offered next c.after) so_far
      ∙ ap (λ (x : Boundary). breaks_in done ++ offered x c.after) (on ∙ ap (λ (x : Boundary). behind x c) is)
      ∙ sym breaks-next ∙ ap breaks_in (sym put)

or-no : (a b : Bool) → b ≡ false → a ≡ (a || b)
or-no true b h = refl
or-no false b h = sym h

-- all of them, where a line must end after the last cluster
pub breaks-all : (cl : List Cluster) → status_at cl (length cl) ≡ Must → breaks_in cl ≡ opportunities_of cl
unfolding opportunities_of is_opportunity
breaks-all cl must =
    agree (λ (k : ℕ). is_break (status_at cl k)) (is_opportunity cl) (opportunity_at cl) (opportunity_at cl) (length cl) 1
    (λ k low high. (
      elim (eqb_tells k (length cl)) [
        | inl same ↦
            let yes : is_break (status_at cl k) ≡ true = ap (λ (n : ℕ). is_break (status_at cl n)) same.1 ∙ ap is_break must in
            yes ∙ sym (ap (λ b. b || k == length cl) yes)
        | inr other ↦ or-no (is_break (status_at cl k)) (k == length cl) other.0
      ],
      refl,
    ))
