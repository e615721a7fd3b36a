-- What the search has found at its end.
use Rattle.std.proofs.Common.{ℕ, zero, suc, ◌≡◌, ◌<◌, ◌≤◌, refl, ap, ap₂, sym, subst, ◌∙◌, inl, inr, eqb, Bool, true, false, ◌&&◌, cond, List, [], ◌∷◌, ◌++◌, map, length, get_or, Option, Some, None, arith}
use Rattle.std.specs.Prelude.{filter, find}
use Rattle.std.specs.Option.{option_map}
use Rattle.std.specs.List.{All, filter_map, list_any, cons_option}
use Rattle.std.proofs.lemmas.Bool.{cases_Bool, cases_lt, eqb-true, ne_eqb, and_from, and_parts, or_parts, le-leb, false≢true}
use Rattle.std.proofs.lemmas.Option.{same_Some}
use Rattle.std.proofs.lemmas.List.Folds.{find-append}
use Rattle.std.proofs.lemmas.List.{append-nil, map-append}
use Rattle.std.proofs.lemmas.List.Elements.{filter_map-append, All-nil, All-head, All-tail, All-push, All-weaker}
use Rattle.bg_types.specs.declared.class.Bidi.{Bidi}
use Rattle.unicode_tables.specs.Tables.{TableValues}
use Rattle.bracket_pairs.specs.declared.role.Role.{Role}
use Rattle.bracket_pairs.specs.declared.role.Role.TheVariants.{Opening}
use Rattle.bracket_pairs.specs.declared.search.Waiting.{Waiting}
use Rattle.bracket_pairs.specs.declared.search.Opened.{Opened}
use Rattle.bracket_pairs.specs.Pairs.{Pair, places, role_of, roles, role_at, opens, is_closed_by, is_open, open_at, match_at, pair_to, pairs_before, is_one_too_many, search_end, opens_at, pairs_in_order}
use Rattle.bracket_pairs.specs.Found.{pair_from, pairs_told, IsClosedBefore, AreInOrder}
use Rattle.bracket_pairs.proofs.SearchSteps.{closing_of, opening_places, opening_of, opened-on, opened-same, opened-later, opened-passes, AreBefore, before-pairs, IsSearched, stacked-length}
use Rattle.bracket_pairs.proofs.Places.{greatest-before}

pub role-at : (tables : TableValues) (chars : List ℕ) (types : List Bidi) (j d : ℕ) (e : Bidi) → length types ≡ length chars → j < length chars →
    role_at (roles tables chars types) j ≡ role_of tables (get_or chars j d) (get_or types j e)
role-at tables [] types j d e same h = absurd (omega arith)
role-at tables (c ∷ chars) [] j d e same h = absurd (omega arith)
role-at tables (c ∷ chars) (t ∷ types) zero d e same h = refl
role-at tables (c ∷ chars) (t ∷ types) (suc j) d e same h = role-at tables chars types j d e (omega arith) (omega arith)

-- the role at a place, as the code reads it
pub role-read : (tables : TableValues) (chars : List ℕ) (types : List Bidi) (j x : ℕ) (e : Bidi) (r role : Role) → length types ≡ length chars → j < length chars →
    x ≡ get_or chars j x → r ≡ role_of tables x (get_or types j e) → r ≡ role → role_at (roles tables chars types) j ≡ role
role-read tables chars types j x e r role same h at is was =
    role-at tables chars types j x e same h ∙ ap (λ (c : ℕ). role_of tables c (get_or types j e)) (sym at) ∙ sym is ∙ was

pub length-roles : (tables : TableValues) (chars : List ℕ) (types : List Bidi) → length types ≡ length chars → length (roles tables chars types) ≡ length chars
length-roles tables [] types same = refl
length-roles tables (c ∷ chars) [] same = absurd (omega arith)
length-roles tables (c ∷ chars) (t ∷ types) same = ap suc (length-roles tables chars types (omega arith))

-- where no role opens, none at a place does
pub opens-nowhere : (rs : List Role) → list_any opens rs ≡ false → (i : ℕ) → opens (role_at rs i) ≡ false
opens-nowhere [] e i = refl
opens-nowhere (r ∷ rs) e zero = (or_parts (opens r) (list_any opens rs) e).0
opens-nowhere (r ∷ rs) e (suc i) = opens-nowhere rs (or_parts (opens r) (list_any opens rs) e).1 i

-- the first place that passes
find-first : (p : ℕ → Bool) (j n : ℕ) → j < n → find p (places j) ≡ None → p j ≡ true → find p (places n) ≡ Some j
find-first p j zero h none at = absurd (omega arith)
find-first p j (suc n) h none at =
    find-append p (places n) (n ∷ []) ∙ elim (cases_lt j n) [
      | inl lt ↦ rw (find-first p j n lt none at) refl
      | inr ge ↦ let e : n ≡ j = omega arith in rw (e, none, at) refl
    ]

-- the search is over where all places are seen
pub end-all : (rs : List Role) (j : ℕ) (stack : List Waiting) (openings : List Opened) → IsSearched rs j stack openings → length rs ≡ j → search_end rs ≡ j
end-all rs j stack openings s all = rw (all, s.room) refl

-- or at an opening bracket that finds no room
pub end-full : (rs : List Role) (j c : ℕ) (stack : List Waiting) (openings : List Opened) → IsSearched rs j stack openings →
    j < length rs → role_at rs j ≡ Opening c → 63 ≤ length stack → search_end rs ≡ j
end-full rs j c stack openings s h role full =
    let size : length stack ≡ length (open_at rs (pairs_before rs j) j) = stacked-length rs j stack openings s in
    let many : is_one_too_many rs j ≡ true = and_from (opens (role_at rs j)) _ (rw role refl) (le-leb 63 (length (open_at rs (pairs_before rs j) j)) (omega arith)) in
    rw (find-first (is_one_too_many rs) j (length rs) h s.room many) refl

-- a pair that is found
find-before : (j i : ℕ) (pairs : List Pair) → AreBefore j pairs → (p : Pair) → find (opens_at i) pairs ≡ Some p → (p.opening ≡ i) × (p.opening < p.closing) × (p.closing < j)
find-before j i [] h p e = absurd (cc)
find-before j i (q ∷ pairs) h p e =
    elim (cases_Bool (eqb q.opening i)) [
      | inl is ↦
          let at : Some q ≡ Some p = rw is at e in
          let same : q ≡ p = same_Some q p at in
          rw (← same) (eqb-true q.opening i is, h.0.0, h.0.1)
      | inr other ↦ let at : find (opens_at i) pairs ≡ Some p = rw other at e in find-before j i pairs h.1 p at
    ]

told-at : (j i : ℕ) (pairs : List Pair) → AreBefore j pairs → pair_from i (closing_of pairs i) ≡ find (opens_at i) pairs
told-at j i pairs h = go (find (opens_at i) pairs) refl
  where
    go : (o : Option Pair) → find (opens_at i) pairs ≡ o → pair_from i (option_map (λ p. p.closing) o) ≡ o
    go None e = refl
    go (Some p) e = let f = find-before j i pairs h p e in rw (← f.0) refl

-- the pairs of opening brackets
told-map : (pairs : List Pair) (j : ℕ) → AreBefore j pairs → (is : List ℕ) → pairs_told (map (opening_of pairs) is) ≡ filter_map (λ i. find (opens_at i) pairs) is
told-map pairs j h [] = refl
told-map pairs j h (i ∷ is) = ap₂ cons_option (told-at j i pairs h) (told-map pairs j h is)

-- what makes no pair may be left out
told-filter : (f : ℕ → Option Pair) (p : ℕ → Bool) → ((i : ℕ) → p i ≡ false → f i ≡ None) → (is : List ℕ) → filter_map f (filter p is) ≡ filter_map f is
told-filter f p none [] = refl
told-filter f p none (i ∷ is) =
    elim (cases_Bool (p i)) [
      | inl passes ↦ ap (λ b. filter_map f (cond b (i ∷ filter p is) (filter p is))) passes ∙ ap (cons_option (f i)) (told-filter f p none is)
      | inr fails ↦
          ap (λ b. filter_map f (cond b (i ∷ filter p is) (filter p is))) fails ∙ told-filter f p none is
          ∙ sym (ap (λ (o : Option Pair). cons_option o (filter_map f is)) (none i fails))
    ]

told-cut : (f : ℕ → Option Pair) (j n : ℕ) → j ≤ n → ((i : ℕ) → j ≤ i → f i ≡ None) → filter_map f (places j) ≡ filter_map f (places n)
told-cut f zero zero le none = refl
told-cut f (suc j) zero le none = absurd (omega arith)
told-cut f j (suc n) le none =
    elim (cases_lt n j) [
      | inl lt ↦ (let e : j ≡ suc n = omega arith in ap (λ k. filter_map f (places k)) e)
      | inr past ↦
          told-cut f j n past none
          ∙ sym (filter_map-append f (places n) (n ∷ [])
          ∙ ap (λ (o : Option Pair). filter_map f (places n) ++ cons_option o []) (none n past) ∙ append-nil (filter_map f (places n)))
    ]

-- pairs open at opening brackets
AreOpened : List Role → List Pair → Type 0
AreOpened rs [] = Unit {0}
AreOpened rs (p ∷ pairs) = (opens (role_at rs p.opening) ≡ true) × AreOpened rs pairs

opened-append : (rs : List Role) (pairs more : List Pair) → AreOpened rs pairs → AreOpened rs more → AreOpened rs (pairs ++ more)
unfolding AreOpened
opened-append rs [] more h g = g
opened-append rs (p ∷ pairs) more h g = (h.0, opened-append rs pairs more h.1 g)

opened-made : (rs : List Role) (j : ℕ) (o : Option ℕ) → ((i : ℕ) → o ≡ Some i → opens (role_at rs i) ≡ true) → AreOpened rs (pair_to j o)
unfolding AreOpened
opened-made rs j None h = tt
opened-made rs j (Some i) h = (h i refl, tt)

opened-pairs : (rs : List Role) (j : ℕ) → AreOpened rs (pairs_before rs j)
unfolding AreOpened
opened-pairs rs zero = tt
opened-pairs rs (suc j) =
    opened-append rs (pairs_before rs j) (pair_to j (match_at rs (pairs_before rs j) j)) (opened-pairs rs j)
    (opened-made rs j (match_at rs (pairs_before rs j) j)
    (λ i e.
    let at = greatest-before (λ k. is_open rs (pairs_before rs j) k && is_closed_by (role_at rs k) (role_at rs j)) j i e in
    opened-passes rs (pairs_before rs j) i (and_parts (is_open rs (pairs_before rs j) i) _ at.1).0))

unopened : (rs : List Role) (i : ℕ) (pairs : List Pair) → AreOpened rs pairs → opens (role_at rs i) ≡ false → find (opens_at i) pairs ≡ None
unfolding AreOpened
unopened rs i [] h off = refl
unopened rs i (p ∷ pairs) h off =
    rw (ne_eqb p.opening i (λ same. false≢true (sym off ∙ subst (λ k. opens (role_at rs k) ≡ true) same h.0))) (unopened rs i pairs h.1 off)

-- the pairs that the search tells are those of the definition
pub end-pairs : (rs : List Role) (j : ℕ) (stack : List Waiting) (openings : List Opened) → IsSearched rs j stack openings →
    j ≤ length rs → search_end rs ≡ j → pairs_told openings ≡ pairs_in_order rs
end-pairs rs j stack openings s le end =
    let pairs = pairs_before rs j in
    ap pairs_told s.told
    ∙ told-map pairs j (before-pairs rs j) (opening_places rs j)
    ∙ told-filter (λ i. find (opens_at i) pairs) (λ i. opens (role_at rs i)) (λ i off. unopened rs i pairs (opened-pairs rs j) off) (places j)
    ∙ told-cut (λ i. find (opens_at i) pairs) j (length rs) le (λ i past. opened-later j i pairs (before-pairs rs j) past)
    ∙ sym (ap (λ (e : ℕ). filter_map (λ i. find (opens_at i) (pairs_before rs e)) (places (length rs))) end)

-- they are in their order
order-push : (from n : ℕ) (openings : List Opened) (o : Opened) → AreInOrder from n openings → All (λ p. p.place ≤ o.place) openings → from ≤ o.place → IsClosedBefore n o →
    AreInOrder from n (openings ++ o ∷ [])
order-push from n [] o a all le closed = (le, closed, tt)
order-push from n (p ∷ openings) o a all le closed =
    (a.0, a.1, order-push p.place n openings o a.2 (All-tail (λ p. p.place ≤ o.place) p openings all) (All-head (λ p. p.place ≤ o.place) p openings all) closed)

closed-before : (pairs : List Pair) (j n i : ℕ) → AreBefore j pairs → j ≤ n → IsClosedBefore n (opening_of pairs i)
closed-before pairs j n i h le k e = go (find (opens_at i) pairs) refl e
  where
    go : (o : Option Pair) → find (opens_at i) pairs ≡ o → option_map (λ p. p.closing) o ≡ Some k → (i < k) × (k < n)
    go None f g = absurd (cc)
    go (Some p) f g = let b = find-before j i pairs h p f in let at : p.closing ≡ k = same_Some p.closing k g in (omega arith, omega arith)

-- those at places before m
record IsOrderedTo (pairs : List Pair) (n m : ℕ) (is : List ℕ) : Type 0 where
  order : AreInOrder 0 n (map (opening_of pairs) is)
  before : All (λ (o : Opened). o.place < m) (map (opening_of pairs) is)

ordered-to : (rs : List Role) (pairs : List Pair) (j n : ℕ) → AreBefore j pairs → j ≤ n → (m : ℕ) → IsOrderedTo pairs n m (opening_places rs m)
ordered-to rs pairs j n h le zero = record { order = tt; before = All-nil (λ (o : Opened). o.place < 0) }
ordered-to rs pairs j n h le (suc m) =
    let so_far = ordered-to rs pairs j n h le m in
    elim (cases_Bool (opens (role_at rs m))) [
      | inl on ↦
          subst (IsOrderedTo pairs n (suc m)) (sym (opened-on rs m on))
          (let more : map (opening_of pairs) (opening_places rs m ++ m ∷ []) ≡ map (opening_of pairs) (opening_places rs m) ++ opening_of pairs m ∷ [] =
          map-append (opening_of pairs) (opening_places rs m) (m ∷ []) in
          record {
            order = subst (AreInOrder 0 n) (sym more)
                (order-push 0 n (map (opening_of pairs) (opening_places rs m)) (opening_of pairs m) so_far.order
                (All-weaker (λ (o : Opened). o.place < m) (λ (o : Opened). o.place ≤ m) (λ o lt. omega arith) (map (opening_of pairs) (opening_places rs m)) so_far.before)
                (omega arith) (closed-before pairs j n m h le));
            before = subst (All (λ (o : Opened). o.place < suc m)) (sym more)
                (All-push (λ (o : Opened). o.place < suc m) (map (opening_of pairs) (opening_places rs m)) (opening_of pairs m)
                (All-weaker (λ (o : Opened). o.place < m) (λ (o : Opened). o.place < suc m) (λ o lt. omega arith) (map (opening_of pairs) (opening_places rs m)) so_far.before)
                (omega arith));
          })
      | inr off ↦
          subst (IsOrderedTo pairs n (suc m)) (sym (opened-same rs m off))
          (record {
            order = so_far.order;
            before = All-weaker (λ (o : Opened). o.place < m) (λ (o : Opened). o.place < suc m) (λ o lt. omega arith) (map (opening_of pairs) (opening_places rs m)) so_far.before;
          })
    ]

pub end-order : (rs : List Role) (j n : ℕ) (stack : List Waiting) (openings : List Opened) → IsSearched rs j stack openings → j ≤ n → AreInOrder 0 n openings
end-order rs j n stack openings s le =
    subst (AreInOrder 0 n) (sym s.told) (ordered-to rs (pairs_before rs j) j n (before-pairs rs j) le j).order
