-- The code points of paragraphs, found from a text's front, and joined where the text is cut.
use Rattle.std.proofs.Common.{◌≡◌, ℕ, suc, ◌<◌, ◌-◌, Bool, true, false, cond, List, [], ◌∷◌, ◌++◌, length, take, refl, sym, ap, ◌∙◌, ◌&&◌, ◌==◌, not, arith}
use Rattle.std.specs.List.{concat}
use Rattle.bg_types.specs.declared.class.Bidi.{Bidi}
use Rattle.paragraphs.specs.Classes.{is_separator}
use Rattle.paragraphs.specs.Paragraphs.{begins_with_line_feed, ends_paragraph, meets_at_cut}

-- c in front of the first of these
abbrev pub begun : ℕ → List (List ℕ) → List (List ℕ)
begun c [] = (c ∷ []) ∷ []
begun c (p ∷ ps) = (c ∷ p) ∷ ps

abbrev pub parts : (ℕ → Bidi) → List ℕ → List (List ℕ)
parts class [] = [] ∷ []
parts class (c ∷ rest) = cond (ends_paragraph class c rest) ((c ∷ []) ∷ parts class rest) (begun c (parts class rest))

-- all but the last
abbrev pub front : List (List ℕ) → List (List ℕ)
front [] = []
front (p ∷ []) = []
front (p ∷ q ∷ ps) = p ∷ front (q ∷ ps)

pub front-is : (ps : List (List ℕ)) → front ps ≡ take (length ps - 1) ps
front-is [] = refl
front-is (p ∷ []) = refl
front-is (p ∷ q ∷ ps) =
    let n : length (p ∷ q ∷ ps) - 1 ≡ suc (length (q ∷ ps) - 1) = omega arith in
    ap (λ t. p ∷ t) (front-is (q ∷ ps)) ∙ sym (ap (λ k. take k (p ∷ q ∷ ps)) n)

cond_cases : (P : List (List ℕ) → Type 0) (b : Bool) (xs ys : List (List ℕ)) → (b ≡ true → P xs) → (b ≡ false → P ys) → P (cond b xs ys)
cond_cases P true xs ys h k = h refl
cond_cases P false xs ys h k = k refl

alone : (s x y : Bool) → (s && not (x && y)) ≡ true → (s && not (x && false)) ≡ true
alone true true y h = refl
alone true false y h = refl
alone false x y h = h

begun-some : (c : ℕ) (ps : List (List ℕ)) → (p : List ℕ) × (qs : List (List ℕ)) × (begun c ps ≡ p ∷ qs)
begun-some c [] = (c ∷ [], [], refl)
begun-some c (p ∷ ps) = (c ∷ p, ps, refl)

concat-begun : (c : ℕ) (ps : List (List ℕ)) → concat (begun c ps) ≡ c ∷ concat ps
concat-begun c [] = refl
concat-begun c (p ∷ ps) = refl

-- what is said of the last code point is said of it behind others
pub meets-behind : (class : ℕ → Bidi) (a : List ℕ) (d : ℕ) (points rest : List ℕ) → meets_at_cut class (a ++ d ∷ points) rest ≡ meets_at_cut class (d ∷ points) rest
meets-behind class [] d points rest = refl
meets-behind class (c ∷ []) d points rest = refl
meets-behind class (c ∷ e ∷ a) d points rest = meets-behind class (e ∷ a) d points rest

-- only the first code point behind the cut counts
pub meets-head : (class : ℕ → Bidi) (a : List ℕ) (d : ℕ) (x y : List ℕ) → meets_at_cut class a (d ∷ x) ≡ meets_at_cut class a (d ∷ y)
meets-head class [] d x y = refl
meets-head class (c ∷ []) d x y = refl
meets-head class (c ∷ e ∷ a) d x y = meets-head class (e ∷ a) d x y

-- where a text meets another at a cut it meets its end so
pub meets-end : (class : ℕ → Bidi) (a rest : List ℕ) → meets_at_cut class a rest ≡ true → meets_at_cut class a [] ≡ true
meets-end class [] rest h = refl
meets-end class (c ∷ []) rest h = alone (is_separator (class c)) (c == 0xD) (begins_with_line_feed class rest) h
meets-end class (c ∷ e ∷ a) rest h = meets-end class (e ∷ a) rest h

module _ (class : ℕ → Bidi) where
  pub concat-parts : (points : List ℕ) → concat (parts class points) ≡ points
  concat-parts [] = refl
  concat-parts (c ∷ rest) =
      cond_cases (λ ps. concat ps ≡ c ∷ rest) (ends_paragraph class c rest) _ _
      (λ _. ap (λ t. c ∷ t) (concat-parts rest))
      (λ _. concat-begun c (parts class rest) ∙ ap (λ t. c ∷ t) (concat-parts rest))

  pub parts-some : (points : List ℕ) → (p : List ℕ) × (qs : List (List ℕ)) × (parts class points ≡ p ∷ qs)
  parts-some [] = ([], [], refl)
  parts-some (c ∷ rest) =
      cond_cases (λ ps. (p : List ℕ) × (qs : List (List ℕ)) × (ps ≡ p ∷ qs)) (ends_paragraph class c rest) _ _
      (λ _. (c ∷ [], parts class rest, refl)) (λ _. begun-some c (parts class rest))

  parts-cut : (c : ℕ) (rest : List ℕ) → ends_paragraph class c rest ≡ true → parts class (c ∷ rest) ≡ (c ∷ []) ∷ parts class rest
  parts-cut c rest e = ap (λ b. cond b ((c ∷ []) ∷ parts class rest) (begun c (parts class rest))) e

  parts-no_cut : (c : ℕ) (rest : List ℕ) → ends_paragraph class c rest ≡ false → parts class (c ∷ rest) ≡ begun c (parts class rest)
  parts-no_cut c rest e = ap (λ b. cond b ((c ∷ []) ∷ parts class rest) (begun c (parts class rest))) e

  -- a text that could be followed by a paragraph has an empty last one
  two-parts : (d : ℕ) (a rest : List ℕ) → meets_at_cut class (d ∷ a) rest ≡ true
      → (p : List ℕ) × (q : List ℕ) × (qs : List (List ℕ)) × (parts class (d ∷ a) ≡ p ∷ q ∷ qs)
  two-parts d [] rest h = (d ∷ [], [], [], parts-cut d [] (meets-end class (d ∷ []) rest h))
  two-parts d (e ∷ a) rest h =
      let later = two-parts e a rest h in
      let grown = λ (ps : List (List ℕ)). cond (ends_paragraph class d (e ∷ a)) ((d ∷ []) ∷ ps) (begun d ps) in
      let first = cond_cases (λ ps. (p : List ℕ) × (q : List ℕ) × (qs : List (List ℕ)) × (ps ≡ p ∷ q ∷ qs)) (ends_paragraph class d (e ∷ a))
      ((d ∷ []) ∷ later.0 ∷ later.1 ∷ later.2) ((d ∷ later.0) ∷ later.1 ∷ later.2)
      (λ _. (d ∷ [], later.0, later.1 ∷ later.2, refl)) (λ _. (d ∷ later.0, later.1, later.2, refl)) in
      (first.0, first.1, first.2, ap grown later.3 ∙ first.3)

  -- the paragraphs of a text that is cut: those in front, without the last, empty one, and those behind
  pub parts-append : (a b : List ℕ) → meets_at_cut class a b ≡ true → parts class (a ++ b) ≡ front (parts class a) ++ parts class b
  parts-append [] b h = refl
  parts-append (c ∷ []) b h = parts-cut c b h ∙ sym (ap (λ ps. front ps ++ parts class b) (parts-cut c [] (meets-end class (c ∷ []) b h)))
  parts-append (c ∷ d ∷ a) b h =
      let next = parts-append (d ∷ a) b h in
      let two = two-parts d a b h in
      let p = two.0 in let q = two.1 in let qs = two.2 in
      let whole = λ (ps : List (List ℕ)). cond (ends_paragraph class c (d ∷ a)) ((c ∷ []) ∷ ps) (begun c ps) in
      let small : cond (ends_paragraph class c (d ∷ a)) ((c ∷ []) ∷ (p ∷ front (q ∷ qs)) ++ parts class b) (begun c ((p ∷ front (q ∷ qs)) ++ parts class b))
      ≡ front (cond (ends_paragraph class c (d ∷ a)) ((c ∷ []) ∷ p ∷ q ∷ qs) (begun c (p ∷ q ∷ qs))) ++ parts class b =
      elim (ends_paragraph class c (d ∷ a)) as (λ t. cond t ((c ∷ []) ∷ (p ∷ front (q ∷ qs)) ++ parts class b) (begun c ((p ∷ front (q ∷ qs)) ++ parts class b))
      ≡ front (cond t ((c ∷ []) ∷ p ∷ q ∷ qs) (begun c (p ∷ q ∷ qs))) ++ parts class b) [ true ↦ refl | false ↦ refl ] in
      ap whole (next ∙ ap (λ ps. front ps ++ parts class b) two.3) ∙ small ∙ sym (ap (λ ps. front (whole ps) ++ parts class b) two.3)

-- a text whose first paragraph another follows: it, and the rest
pub record IsBegun (class : ℕ → Bidi) (points p q : List ℕ) (qs : List (List ℕ)) : Type 0 where
  pub rest : List ℕ
  pub whole : points ≡ p ++ rest
  pub some : 0 < length p
  pub met : meets_at_cut class p rest ≡ true
  pub later : parts class rest ≡ q ∷ qs

same-head : (p q : List ℕ) (ps qs : List (List ℕ)) → p ∷ ps ≡ q ∷ qs → p ≡ q
same-head p q ps qs e = cc

same-tail : (p q : List ℕ) (ps qs : List (List ℕ)) → p ∷ ps ≡ q ∷ qs → ps ≡ qs
same-tail p q ps qs e = cc

module _ (class : ℕ → Bidi) where
  begin-cut : (c : ℕ) (rest p q : List ℕ) (qs : List (List ℕ)) → ends_paragraph class c rest ≡ true → (c ∷ []) ∷ parts class rest ≡ p ∷ q ∷ qs
      → IsBegun class (c ∷ rest) p q qs
  begin-cut c rest p q qs ends e =
      let h : c ∷ [] ≡ p = same-head _ _ _ _ e in
      record {
        rest = rest;
        whole = ap (λ t. t ++ rest) h;
        some = let n = ap length h in omega arith;
        met = ap (λ t. meets_at_cut class t rest) (sym h) ∙ ends;
        later = same-tail _ _ _ _ e;
      }

  begin-more : (c : ℕ) (rest p₀ p q : List ℕ) (qs : List (List ℕ)) → c ∷ p₀ ≡ p → IsBegun class rest p₀ q qs → IsBegun class (c ∷ rest) p q qs
  begin-more c rest [] p q qs h i = absurd (let n = i.some in omega arith)
  begin-more c rest (d ∷ ds) p q qs h i = record {
    rest = i.rest;
    whole = ap (λ t. c ∷ t) i.whole ∙ ap (λ t. t ++ i.rest) h;
    some = let n = ap length h in omega arith;
    met = ap (λ t. meets_at_cut class t i.rest) (sym h) ∙ i.met;
    later = i.later;
  }

  -- the first paragraph, where another follows it
  pub begin-parts : (points p q : List ℕ) (qs : List (List ℕ)) → parts class points ≡ p ∷ q ∷ qs → IsBegun class points p q qs
  begin-parts [] p q qs e = absurd (cc)
  begin-parts (c ∷ rest) p q qs e =
      let s = parts-some class rest in
      elim (ends_paragraph class c rest) as (λ b. ends_paragraph class c rest ≡ b → IsBegun class (c ∷ rest) p q qs) [
        | true ↦ λ b. begin-cut c rest p q qs b (sym (parts-cut class c rest b) ∙ e)
        | false ↦ λ b.
            let here : (c ∷ s.0) ∷ s.1 ≡ p ∷ q ∷ qs = sym (ap (begun c) s.2) ∙ sym (parts-no_cut class c rest b) ∙ e in
            begin-more c rest s.0 p q qs (same-head _ _ _ _ here) (begin-parts rest s.0 q qs (s.2 ∙ ap (λ t. s.0 ∷ t) (same-tail _ _ _ _ here)))
      ] refl
