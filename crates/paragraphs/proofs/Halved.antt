-- Paragraphs that are cut in two, and others put between.
use Rattle.std.proofs.Common.{◌≡◌, ℕ, ◌<◌, true, List, [], ◌∷◌, ◌++◌, length, refl, sym, ap, ◌∙◌, arith}
use Rattle.std.proofs.lemmas.List.{append-nil, append_assoc, append_cancel_left, append_cancel_right, length-append}
use Rattle.std.specs.List.{concat}
use Rattle.bg_types.specs.declared.class.Bidi.{Bidi}
use Rattle.paragraphs.specs.Paragraphs.{ends_paragraph, meets_at_cut}
use Rattle.paragraphs.proofs.Parts.{parts, front, parts-some, parts-append, begin-parts, meets-behind, meets-head}

pub concat-append : (xs ys : List (List ℕ)) → concat (xs ++ ys) ≡ concat xs ++ concat ys
concat-append [] ys = refl
concat-append (x ∷ xs) ys = ap (λ t. x ++ t) (concat-append xs ys) ∙ sym (append_assoc x (concat xs) (concat ys))

-- these paragraphs stand in front of a cut, and those behind it
pub record IsHalved (class : ℕ → Bidi) (first second : List (List ℕ)) : Type 0 where
  pub met : meets_at_cut class (concat first) (concat second) ≡ true
  pub before : first ≡ front (parts class (concat first))
  pub after : second ≡ parts class (concat second)
  pub some : 0 < length first → 0 < length (concat first)

-- only the first code point of what follows counts
pub meets-front : (class : ℕ → Bidi) (a x y : List ℕ) → 0 < length x → meets_at_cut class a (x ++ y) ≡ meets_at_cut class a x
meets-front class a [] y h = absurd (omega arith)
meets-front class a (d ∷ x) y h = meets-head class a d (x ++ y) x

-- where one code point stands last, it decides
pub meets-one : (class : ℕ → Bidi) (a : List ℕ) (c : ℕ) (rest : List ℕ) → meets_at_cut class (a ++ c ∷ []) rest ≡ ends_paragraph class c rest
meets-one class a c rest = meets-behind class a c [] rest

-- only the last one of what stands in front counts
pub meets-last : (class : ℕ → Bidi) (a x rest : List ℕ) → 0 < length x → meets_at_cut class (a ++ x) rest ≡ meets_at_cut class x rest
meets-last class a [] rest h = absurd (omega arith)
meets-last class a (d ∷ x) rest h = meets-behind class a d x rest

module _ (class : ℕ → Bidi) where
  -- a paragraph that is followed is one alone
  front-one : (p rest : List ℕ) (q : List ℕ) (qs : List (List ℕ)) → meets_at_cut class p rest ≡ true → parts class rest ≡ q ∷ qs
      → parts class (p ++ rest) ≡ p ∷ q ∷ qs → front (parts class p) ≡ p ∷ []
  front-one p rest q qs met later whole =
      append_cancel_right (front (parts class p)) (p ∷ []) (parts class rest)
      (sym (parts-append class p rest met) ∙ whole ∙ ap (λ t. p ∷ t) (sym later))

  front-begun : (p : List ℕ) (ps : List ℕ) → front (p ∷ parts class ps) ≡ p ∷ front (parts class ps)
  front-begun p ps = let s = parts-some class ps in ap (λ t. front (p ∷ t)) s.2 ∙ sym (ap (λ t. p ∷ front t) s.2)

  -- one paragraph more in front, with none or some between
  halved-none : (p rest : List ℕ) (second : List (List ℕ)) → meets_at_cut class p rest ≡ true → 0 < length p → front (parts class p) ≡ p ∷ []
      → rest ≡ concat second → second ≡ parts class (concat second) → IsHalved class (p ∷ []) second
  halved-none p rest second met some alone whole after = record {
    met = ap (λ t. meets_at_cut class t (concat second)) (append-nil p) ∙ ap (meets_at_cut class p) (sym whole) ∙ met;
    before = sym alone ∙ sym (ap (λ t. front (parts class t)) (append-nil p));
    after = after;
    some = λ _. let n = length-append p [] in omega arith;
  }

  halved-more : (p rest : List ℕ) (x : List ℕ) (first second : List (List ℕ)) → meets_at_cut class p rest ≡ true → 0 < length p → front (parts class p) ≡ p ∷ []
      → rest ≡ concat (x ∷ first) ++ concat second → IsHalved class (x ∷ first) second → IsHalved class (p ∷ x ∷ first) second
  halved-more p rest x first second met some alone whole h =
      let y = concat (x ∷ first) in
      let full : 0 < length y = h.some (omega arith) in
      let near : meets_at_cut class p y ≡ true = sym (meets-front class p y (concat second) full) ∙ ap (meets_at_cut class p) (sym whole) ∙ met in
      record {
        met = meets-last class p y (concat second) full ∙ h.met;
        before =
            ap (λ t. p ∷ t) h.before ∙ sym (front-begun p y) ∙ ap (λ t. front (t ++ parts class y)) (sym alone)
            ∙ ap front (sym (parts-append class p y near));
        after = h.after;
        some = λ _. let n = length-append p y in omega arith;
      }

  halved-from : (first : List (List ℕ)) (q : List ℕ) (qs : List (List ℕ)) → parts class (concat (first ++ q ∷ qs)) ≡ first ++ q ∷ qs → IsHalved class first (q ∷ qs)
  halved-from [] q qs e = record { met = refl; before = refl; after = sym e; some = λ h. absurd (omega arith) }
  halved-from (p ∷ []) q qs e =
      let i = begin-parts class (p ++ concat (q ∷ qs)) p q qs e in
      let whole = append_cancel_left p (concat (q ∷ qs)) i.rest i.whole in
      let after = ap (parts class) whole ∙ i.later in
      halved-none p i.rest (q ∷ qs) i.met i.some (front-one p i.rest q qs i.met i.later (ap (parts class) (sym i.whole) ∙ e)) (sym whole) (sym after)
  halved-from (p ∷ x ∷ first) q qs e =
      let later = first ++ q ∷ qs in
      let i = begin-parts class (p ++ concat (x ∷ later)) p x later e in
      let whole = append_cancel_left p (concat (x ∷ later)) i.rest i.whole in
      let next = halved-from (x ∷ first) q qs (ap (parts class) whole ∙ i.later) in
      halved-more p i.rest x first (q ∷ qs) i.met i.some (front-one p i.rest x later i.met i.later (ap (parts class) (sym i.whole) ∙ e))
      (sym whole ∙ concat-append (x ∷ first) (q ∷ qs)) next

  -- paragraphs are cut between any two
  pub IsHalved-from : (kept first second : List (List ℕ)) → kept ≡ parts class (concat kept) → kept ≡ first ++ second → 0 < length second → IsHalved class first second
  IsHalved-from kept first [] is split some = absurd (omega arith)
  IsHalved-from kept first (q ∷ qs) is split some = halved-from first q qs (ap (λ t. parts class (concat t)) (sym split) ∙ sym is ∙ split)

  -- others in place of the last ones
  pub parts-put_last : (first : List (List ℕ)) (middle : List ℕ) → first ≡ front (parts class (concat first)) → meets_at_cut class (concat first) middle ≡ true
      → first ++ parts class middle ≡ parts class (concat first ++ middle)
  parts-put_last first middle before met = ap (λ t. t ++ parts class middle) before ∙ sym (parts-append class (concat first) middle met)

  -- others between
  pub parts-put : (first second : List (List ℕ)) (middle : List ℕ) → first ≡ front (parts class (concat first)) → second ≡ parts class (concat second)
      → meets_at_cut class (concat first) (middle ++ concat second) ≡ true → meets_at_cut class middle (concat second) ≡ true
      → first ++ (front (parts class middle) ++ second) ≡ parts class (concat first ++ (middle ++ concat second))
  parts-put first second middle before after met next =
      ap (λ t. first ++ t) (ap (λ t. front (parts class middle) ++ t) after ∙ sym (parts-append class middle (concat second) next))
      ∙ parts-put_last first (middle ++ concat second) before met
