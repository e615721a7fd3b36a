-- A paragraph of which a part is replaced stays one, where no separator comes in.
use Rattle.std.proofs.Common.{◌≡◌, ◌⊎◌, ℕ, ◌+◌, ◌-◌, ◌<◌, ◌≤◌, Bool, true, false, cond, List, [], ◌∷◌, ◌++◌, ◌&&◌, ◌==◌, not, length, take, drop, get_or, refl, sym, ap, ap₂, ◌∙◌, inl, inr, eq-eqb, arith}
use Rattle.std.proofs.lemmas.Bool.{cases_lt, ne_eqb}
use Rattle.std.proofs.lemmas.List.{append-nil, append_assoc, length-append, length-drop, take-append-drop, take-append-le, take_at, drop_more, drop_all}
use Rattle.std.specs.Bool.{then_some}
use Rattle.std.specs.Prelude.{◌||◌, nat_eq, IfSome}
use Rattle.std.specs.List.{concat, list_any}
use Rattle.bg_types.specs.declared.class.Bidi.{Bidi}
use Rattle.unicode_tables.specs.Tables.{TableValues, bidi_of}
use Rattle.paragraphs.specs.Classes.{is_separator}
use Rattle.paragraphs.specs.Paragraphs.{begins_with_line_feed, ends_paragraph, meets_at_cut}
use Rattle.text_buffer.specs.Stretches.{separates}
use Rattle.paragraphs.proofs.Interface.{parts, front, parts-some, IsHalved-from}

abbrev heads : List (List ℕ) → List ℕ
heads [] = []
heads (p ∷ ps) = p

abbrev tails : List (List ℕ) → List (List ℕ)
tails [] = []
tails (p ∷ ps) = ps

-- a character that would end a text ends one wherever it stands but before a line feed
plain-anywhere : (s x y : Bool) → (s && not (x && false)) ≡ false → (s && not (x && y)) ≡ false
plain-anywhere true true y h = cc
plain-anywhere true false y h = cc
plain-anywhere false x y h = refl

neither : (x y : Bool) → (x || y) ≡ false → (x ≡ false) × (y ≡ false)
neither true y h = cc
neither false y h = (refl, h)

module _ (class : ℕ → Bidi) where
  -- none of these ends a paragraph, directly before `rest`
  abbrev Uncut : (points rest : List ℕ) → Type 0
  Uncut [] rest = Unit {0}
  Uncut (c ∷ points) rest = (ends_paragraph class c (points ++ rest) ≡ false) × Uncut points rest

  -- the paragraphs with one code point more in front, which ends none
  record IsLonger (c : ℕ) (points : List ℕ) : Type 0 where
    pub uncut : ends_paragraph class c points ≡ false
    pub first : List ℕ
    pub later : List (List ℕ)
    pub was : parts class points ≡ first ∷ later
    pub is : parts class (c ∷ points) ≡ (c ∷ first) ∷ later

  one-more : (c : ℕ) (points : List ℕ) → (parts class (c ∷ points) ≡ (c ∷ []) ∷ parts class points) ⊎ IsLonger c points
  one-more c points =
      elim (ends_paragraph class c points) as (λ b. ends_paragraph class c points ≡ b → (parts class (c ∷ points) ≡ (c ∷ []) ∷ parts class points) ⊎ IsLonger c points) [
        | true ↦ λ h. inl (rw h refl)
        | false ↦ λ h. let s = parts-some class points in inr (record { uncut = h; first = s.0; later = s.1; was = s.2; is = rw (h, s.2) refl })
      ] refl

  cut-more : (c : ℕ) (points : List ℕ) → ends_paragraph class c points ≡ false → IsLonger c points
  cut-more c points h = let s = parts-some class points in record { uncut = h; first = s.0; later = s.1; was = s.2; is = rw (h, s.2) refl }

  -- behind them the first paragraph is longer
  uncut-one : (x rest : List ℕ) (qs : List (List ℕ)) → Uncut x rest → parts class rest ≡ rest ∷ qs → parts class (x ++ rest) ≡ (x ++ rest) ∷ qs
  unfolding cut-more
  uncut-one [] rest qs u e = e
  uncut-one (c ∷ x) rest qs u e =
      let m = cut-more c (x ++ rest) u.0 in
      let same = sym m.was ∙ uncut-one x rest qs u.1 e in
      m.is ∙ ap₂ (λ p ps. (c ∷ p) ∷ ps) (ap heads same) (ap tails same)

  -- and the front of one paragraph has no end
  one-uncut : (x rest : List ℕ) (qs : List (List ℕ)) → (0 < length rest) ⊎ (length qs ≡ 0) → parts class (x ++ rest) ≡ (x ++ rest) ∷ qs → Uncut x rest × (parts class rest ≡ rest ∷ qs)
  one-uncut [] rest qs some e = (tt, e)
  one-uncut (c ∷ x) rest qs some e =
      let y = x ++ rest in
      elim (one-more c y) [
        | inl cut ↦
            let k = sym cut ∙ e in
            let first = ap (λ ps. length (heads ps)) k in
            let later = ap (λ ps. length (tails ps)) k in
            let size = ap length (parts-some class y).2 in
            elim some [
              | inl more ↦ absurd (omega (arith, first, length-append x rest, more))
              | inr none ↦ absurd (omega (arith, later, size, none))
            ]
        | inr m ↦
            let same = sym m.is ∙ e in
            let next = one-uncut x rest qs some (m.was ∙ ap₂ (λ p ps. p ∷ ps) (ap (λ ps. drop 1 (heads ps)) same) (ap tails same)) in
            ((m.uncut, next.0), next.1)
      ]

  -- where the last of them is no separator, what follows does not matter
  uncut-before : (x rest other : List ℕ) → Uncut x rest → (0 < length x → meets_at_cut class x [] ≡ false) → Uncut x other
  uncut-before [] rest other u last = tt
  uncut-before (c ∷ []) rest other u last = (plain-anywhere (is_separator (class c)) (c == 0xD) (begins_with_line_feed class other) (last (omega arith)), tt)
  uncut-before (c ∷ d ∷ x) rest other u last = (u.0, uncut-before (d ∷ x) rest other u.1 (λ _. last (omega arith)))

  all-plain : (t rest : List ℕ) → list_any (λ c. is_separator (class c)) t ≡ false → Uncut t rest
  all-plain [] rest plain = tt
  all-plain (c ∷ t) rest plain =
      let none = neither (is_separator (class c)) (list_any (λ c. is_separator (class c)) t) plain in
      (ap (λ b. b && not (c == 0xD && begins_with_line_feed class (t ++ rest))) none.0, all-plain t rest none.1)

  -- a paragraph of which `e` is replaced by `t`
  pub stays-one : (f e b t : List ℕ) (qs : List (List ℕ)) → parts class (f ++ (e ++ b)) ≡ (f ++ (e ++ b)) ∷ qs → (0 < length b) ⊎ (length qs ≡ 0)
      → (0 < length f → meets_at_cut class f [] ≡ false) → list_any (λ c. is_separator (class c)) t ≡ false
      → parts class (f ++ (t ++ b)) ≡ (f ++ (t ++ b)) ∷ qs
  stays-one f e b t qs is some last plain =
      let more : (0 < length (e ++ b)) ⊎ (length qs ≡ 0) = elim some [ inl h ↦ inl (omega (arith, h, length-append e b)) | inr h ↦ inr h ] in
      let first = one-uncut f (e ++ b) qs more is in
      let second = one-uncut e b qs some first.1 in
      let inner = uncut-one t b qs (all-plain t b plain) second.1 in
      uncut-one f (t ++ b) qs (uncut-before f (e ++ b) (t ++ b) first.0 last) inner

-- a paragraph that is followed by others is one, with an empty one behind it
front-one : (ps : List (List ℕ)) (p : List ℕ) → front ps ≡ p ∷ [] → (q : List ℕ) × (ps ≡ p ∷ q ∷ [])
front-one [] p e = cc
front-one (x ∷ []) p e = cc
front-one (x ∷ q ∷ []) p e = (q, ap (λ y. y ∷ q ∷ []) (ap heads e))
front-one (x ∷ q ∷ r ∷ rest) p e = cc

module _ (tables : TableValues) (kept : List (List ℕ)) (is : kept ≡ parts (bidi_of tables) (concat kept)) (n : ℕ) (within : n < length kept) where
  pub one-followed : n + 1 < length kept → (q : List ℕ) × (parts (bidi_of tables) (get_or kept n []) ≡ get_or kept n [] ∷ q ∷ [])
  one-followed more =
      let class = bidi_of tables in
      let p = get_or kept n [] in
      let low = IsHalved-from class kept (take n kept) (drop n kept) is (sym (take-append-drop n kept)) (omega (arith, length-drop n kept)) in
      let h = IsHalved-from class (drop n kept) (p ∷ []) (drop (n + 1) kept) low.after (drop_more kept n [] within) (omega (arith, length-drop (n + 1) kept)) in
      front-one (parts class p) p (sym (h.before ∙ ap (λ t. front (parts class t)) (append-nil p)))

  pub one-last : n + 1 ≡ length kept → parts (bidi_of tables) (get_or kept n []) ≡ get_or kept n [] ∷ []
  one-last all =
      let class = bidi_of tables in
      let p = get_or kept n [] in
      let low = IsHalved-from class kept (take n kept) (drop n kept) is (sym (take-append-drop n kept)) (omega (arith, length-drop n kept)) in
      let rest = drop_more kept n [] within ∙ ap (λ t. p ∷ t) (drop_all (n + 1) kept (omega (arith, all))) in
      sym (sym rest ∙ low.after ∙ ap (λ ps. parts class (concat ps)) rest ∙ ap (parts class) (append-nil p))

  -- what stands between two places of a paragraph
  between : (f g h b p : List ℕ) → f ++ g ≡ p → h ++ b ≡ p → length f ≤ length h → p ≡ f ++ (drop (length f) h ++ b)
  between f g h b p first second order =
      let n = length f in
      let front : take n h ≡ f = sym (take-append-le n h b order) ∙ ap (take n) (second ∙ sym first) ∙ take_at f g n refl in
      sym second ∙ ap (λ t. t ++ b) (sym (take-append-drop n h) ∙ ap (λ t. t ++ drop n h) front) ∙ append_assoc f (drop n h) b

  -- the paragraph is one of the new text too, with nothing behind it where it is not the last
  pub whole-stretch : (f g h b t : List ℕ) → f ++ g ≡ get_or kept n [] → h ++ b ≡ get_or kept n [] → length f ≤ length h → (n + 1 < length kept → 0 < length b)
      → (0 < length f → meets_at_cut (bidi_of tables) f [] ≡ false) → list_any (separates tables) t ≡ false
      → cond (nat_eq (n + 1) (length kept)) (parts (bidi_of tables) (f ++ (t ++ b))) (take (length (parts (bidi_of tables) (f ++ (t ++ b))) - 1) (parts (bidi_of tables) (f ++ (t ++ b)))) ≡ (f ++ (t ++ b)) ∷ []
  whole-stretch f g h b t first second order some last plain =
      let class = bidi_of tables in
      let p = get_or kept n [] in
      let new = f ++ (t ++ b) in
      let e = drop (length f) h in
      let is_p = between f g h b p first second order in
      elim (cases_lt (n + 1) (length kept)) [
        | inl more ↦
            let one = one-followed more in
            let q = one.0 in
            let was : parts class (f ++ (e ++ b)) ≡ (f ++ (e ++ b)) ∷ q ∷ [] = ap (parts class) (sym is_p) ∙ one.1 ∙ ap (λ x. x ∷ q ∷ []) is_p in
            let now = stays-one class f e b t (q ∷ []) was (inl (some more)) last plain in
            let test : nat_eq (n + 1) (length kept) ≡ false = ne_eqb (n + 1) (length kept) (λ same. omega (arith, same, more)) in
            ap (λ x. cond x (parts class new) (take (length (parts class new) - 1) (parts class new))) test ∙ ap (λ ps. take (length ps - 1) ps) now
        | inr end ↦
            let all : n + 1 ≡ length kept = omega (arith, end, within) in
            let was : parts class (f ++ (e ++ b)) ≡ (f ++ (e ++ b)) ∷ [] = ap (parts class) (sym is_p) ∙ one-last all ∙ ap (λ x. x ∷ []) is_p in
            let now = stays-one class f e b t [] was (inr refl) last plain in
            let test : nat_eq (n + 1) (length kept) ≡ true = eq-eqb (n + 1) (length kept) all in
            ap (λ x. cond x (parts class new) (take (length (parts class new) - 1) (parts class new))) test ∙ now
      ]

-- what is told where a test holds
pub told-if : (P : ℕ → Type 0) (b : Bool) (n : ℕ) → (b ≡ true → P n) → IfSome (then_some b n) P
told-if P true n h = h refl
told-if P false n h = tt
