-- The search for pairs, step by step.
use Rattle.std.proofs.Common.{ℕ, zero, suc, ◌≡◌, ◌+◌, ◌-◌, ◌<◌, ◌≤◌, add-one, ◌≢◌, refl, ap, ap₂, sym, ◌∙◌, subst, inl, inr, eqb, ltb, leb, Bool, true, false, ◌&&◌, ◌||◌, cond, List, [], ◌∷◌, ◌++◌, length, set, map, reverse, Option, Some, None, arith}
use Rattle.std.specs.Prelude.{filter, find, not}
use Rattle.std.specs.Option.{option_map, option_or}
use Rattle.std.specs.List.{list_any}
use Rattle.std.proofs.lemmas.Bool.{cases_Bool, cases_eq, and_parts, le-leb, lt-leb, lt-ltb, le-ltb, eq-eqb, ne_eqb, and_left, and_right, and_from, or_parts, not-true, false≢true}
use Rattle.std.proofs.lemmas.List.{append-nil, reverse-append, length-map, length-reverse, length-append, map-append, set-append_left, set-append_right}
use Rattle.std.proofs.lemmas.Option.{some_pair_parts}
use Rattle.std.proofs.lemmas.List.Folds.{find-append}
use Rattle.std.proofs.lemmas.List.Elements.{filter-append}
use Rattle.bracket_pairs.specs.declared.role.Role.{Role}
use Rattle.bracket_pairs.specs.declared.role.Role.TheVariants.{Opening, Closing, Neither}
use Rattle.bracket_pairs.specs.declared.search.Waiting.{Waiting}
use Rattle.bracket_pairs.specs.declared.search.Opened.{Opened}
use Rattle.bracket_pairs.specs.Pairs.{Pair, places, places_back, greatest_before, role_at, opens, is_closed_by, is_open, open_at, match_at, pair_to, pairs_before, is_one_too_many, opens_at}
use Rattle.bracket_pairs.specs.Found.{closed_by}
use Rattle.bracket_pairs.proofs.Places.{filter-cut, greatest-before}

-- what waits at an opening bracket
abbrev pub partner_of : Role → ℕ
partner_of (Opening partner) = partner
partner_of (Closing c) = 0
partner_of Neither = 0

-- the places before n that open, and how many there are
abbrev pub opening_places : List Role → ℕ → List ℕ
opening_places rs n = filter (λ i. opens (role_at rs i)) (places n)

abbrev pub number_of : List Role → ℕ → ℕ
number_of rs n = length (opening_places rs n)

abbrev pub waiting_at : List Role → ℕ → Waiting
waiting_at rs i = record { place = i; number = number_of rs i; partner = partner_of (role_at rs i) }

-- the closing place of the pair that opens at i
abbrev pub closing_of : List Pair → ℕ → Option ℕ
closing_of pairs i = option_map (λ p. p.closing) (find (opens_at i) pairs)

abbrev pub opening_of : List Pair → ℕ → Opened
opening_of pairs i = record { place = i; closing = closing_of pairs i }

-- pairs that are closed before j
abbrev pub AreBefore : ℕ → List Pair → Type 0
AreBefore j [] = Unit {0}
AreBefore j (p ∷ pairs) = ((p.opening < p.closing) × (p.closing < j)) × AreBefore j pairs

before-weaker : (j k : ℕ) (pairs : List Pair) → j ≤ k → AreBefore j pairs → AreBefore k pairs
before-weaker j k [] le h = tt
before-weaker j k (p ∷ pairs) le h = ((h.0.0, omega arith), before-weaker j k pairs le h.1)

before-append : (j : ℕ) (pairs more : List Pair) → AreBefore j pairs → AreBefore j more → AreBefore j (pairs ++ more)
before-append j [] more h g = g
before-append j (p ∷ pairs) more h g = (h.0, before-append j pairs more h.1 g)

before-made : (j : ℕ) (o : Option ℕ) → ((i : ℕ) → o ≡ Some i → i < j) → AreBefore (suc j) (pair_to j o)
before-made j None h = tt
before-made j (Some i) h = ((h i refl, omega arith), tt)

pub before-pairs : (rs : List Role) (j : ℕ) → AreBefore j (pairs_before rs j)
before-pairs rs zero = tt
before-pairs rs (suc j) =
    before-append (suc j) (pairs_before rs j) (pair_to j (match_at rs (pairs_before rs j) j))
    (before-weaker j (suc j) (pairs_before rs j) (omega arith) (before-pairs rs j))
    (before-made j (match_at rs (pairs_before rs j) j)
    (λ i e. (greatest-before (λ k. is_open rs (pairs_before rs j) k && is_closed_by (role_at rs k) (role_at rs j)) j i e).0))

-- at a place that passes, a closing bracket finds what waits there, or goes on
closed-step : (rs : List Role) (c n : ℕ) (w : Waiting) (stack : List Waiting) (o : Option (Waiting × List Waiting)) → opens (role_at rs n) ≡ true →
    (b : Bool) → is_closed_by (role_at rs n) (Closing c) ≡ b → cond (eqb (partner_of (role_at rs n)) c) (Some (w, stack)) o ≡ cond b (Some (w, stack)) o
closed-step rs c n w stack o opened b e = go (role_at rs n) opened e
  where
    go : (r : Role) → opens r ≡ true → is_closed_by r (Closing c) ≡ b → cond (eqb (partner_of r) c) (Some (w, stack)) o ≡ cond b (Some (w, stack)) o
    go (Opening p) h e = rw e refl
    go (Closing d) h e = absurd (cc)
    go Neither h e = absurd (cc)

-- what waits at a place, and the stack of the places before it that pass
abbrev pub cut : List Role → (ℕ → Bool) → ℕ → Waiting × List Waiting
cut rs p i = (waiting_at rs i, map (waiting_at rs) (filter p (places_back i)))

-- the stack of the places that pass, cut by a closing bracket
pub closed-places : (rs : List Role) (p : ℕ → Bool) (c n : ℕ) → ((i : ℕ) → p i ≡ true → opens (role_at rs i) ≡ true) →
    closed_by c (map (waiting_at rs) (filter p (places_back n)))
    ≡ option_map (cut rs p) (greatest_before (λ i. p i && is_closed_by (role_at rs i) (Closing c)) n)
closed-places rs p c zero opened = refl
closed-places rs p c (suc n) opened =
    let ih = closed-places rs p c n opened in
    elim (cases_Bool (p n)) [
      | inr fails ↦ rw fails ih
      | inl passes ↦ elim (cases_Bool (is_closed_by (role_at rs n) (Closing c))) [
        | inl is ↦ rw (passes, is)
            (closed-step rs c n (waiting_at rs n) (map (waiting_at rs) (filter p (places_back n))) (closed_by c (map (waiting_at rs) (filter p (places_back n)))) (opened n passes) true is)
        | inr waits ↦ rw (passes, waits)
            (closed-step rs c n (waiting_at rs n) (map (waiting_at rs) (filter p (places_back n))) (closed_by c (map (waiting_at rs) (filter p (places_back n)))) (opened n passes) false waits ∙ ih)
      ]
    ]

-- where nothing matches no pair is made
pub pairs-same : (rs : List Role) (j : ℕ) → match_at rs (pairs_before rs j) j ≡ None → pairs_before rs (suc j) ≡ pairs_before rs j
pairs-same rs j e = rw e (append-nil (pairs_before rs j))

pairs-more : (rs : List Role) (j i : ℕ) → match_at rs (pairs_before rs j) j ≡ Some i →
    pairs_before rs (suc j) ≡ pairs_before rs j ++ (record { opening = i; closing = j }) ∷ []
pairs-more rs j i e = rw e refl

-- only a closing bracket matches
match-none : (rs : List Role) (pairs : List Pair) (j n : ℕ) → ((r : Role) → is_closed_by r (role_at rs j) ≡ false) →
    greatest_before (λ i. is_open rs pairs i && is_closed_by (role_at rs i) (role_at rs j)) n ≡ None
match-none rs pairs j zero h = refl
match-none rs pairs j (suc n) h = rw (and_right (is_open rs pairs n) _ (h (role_at rs n))) (match-none rs pairs j n h)

not-closed : (r s : Role) → opens s ≡ true → is_closed_by r s ≡ false
not-closed (Opening p) (Opening c) h = refl
not-closed (Opening p) (Closing c) h = absurd (cc)
not-closed (Opening p) Neither h = absurd (cc)
not-closed (Closing p) s h = refl
not-closed Neither s h = refl

not-by-neither : (r : Role) → is_closed_by r Neither ≡ false
not-by-neither (Opening p) = refl
not-by-neither (Closing p) = refl
not-by-neither Neither = refl

-- a place that no pair closed before it covers
not-covered : (j : ℕ) (pairs : List Pair) → AreBefore j pairs → list_any (λ p. leb p.opening j && ltb j p.closing) pairs ≡ false
not-covered j [] h = refl
not-covered j (p ∷ pairs) h = rw (and_right (leb p.opening j) _ (le-ltb j p.closing (omega arith)), not-covered j pairs h.1) refl

-- what opens before a place
pub opened-on : (rs : List Role) (n : ℕ) → opens (role_at rs n) ≡ true → opening_places rs (suc n) ≡ opening_places rs n ++ n ∷ []
opened-on rs n e = filter-append (λ i. opens (role_at rs i)) (places n) (n ∷ []) ∙ ap (λ b. opening_places rs n ++ cond b (n ∷ []) []) e

pub opened-same : (rs : List Role) (n : ℕ) → opens (role_at rs n) ≡ false → opening_places rs (suc n) ≡ opening_places rs n
opened-same rs n e =
    filter-append (λ i. opens (role_at rs i)) (places n) (n ∷ []) ∙ ap (λ b. opening_places rs n ++ cond b (n ∷ []) []) e ∙ append-nil (opening_places rs n)

number-on : (rs : List Role) (n : ℕ) → opens (role_at rs n) ≡ true → number_of rs (suc n) ≡ suc (number_of rs n)
number-on rs n e = ap length (opened-on rs n e) ∙ omega (arith, length-append (opening_places rs n) (n ∷ []))

number-less : (rs : List Role) (x n : ℕ) → opens (role_at rs x) ≡ true → x < n → number_of rs x < number_of rs n
number-less rs x zero h lt = absurd (omega arith)
number-less rs x (suc n) h lt =
    elim (cases_eq x n) [
      | inl e ↦
          (let more = number-on rs n (subst (λ k. opens (role_at rs k) ≡ true) e h) in let same : number_of rs x ≡ number_of rs n = ap (number_of rs) e in omega arith)
      | inr ne ↦
          (let before = number-less rs x n h (omega arith) in
          elim (cases_Bool (opens (role_at rs n))) [
            | inl on ↦ (let more = number-on rs n on in omega arith)
            | inr off ↦ (let same = ap length (opened-same rs n off) in omega arith)
          ])
    ]

-- what is known of the opening brackets, where only that at x changes
module _ (rs : List Role) (g h : ℕ → Opened) (x : ℕ) (other : (i : ℕ) → i ≢ x → h i ≡ g i) where
  before-same : (n : ℕ) → n ≤ x → map g (opening_places rs n) ≡ map h (opening_places rs n)
  before-same zero le = refl
  before-same (suc n) le =
      let so_far = before-same n (omega arith) in
      elim (cases_Bool (opens (role_at rs n))) [
        | inl on ↦
            ap (map g) (opened-on rs n on) ∙ map-append g (opening_places rs n) (n ∷ [])
            ∙ ap (λ os. os ++ g n ∷ []) so_far ∙ ap (λ o. map h (opening_places rs n) ++ o ∷ []) (sym (other n (omega arith)))
            ∙ sym (ap (map h) (opened-on rs n on) ∙ map-append h (opening_places rs n) (n ∷ []))
        | inr off ↦ ap (map g) (opened-same rs n off) ∙ so_far ∙ sym (ap (map h) (opened-same rs n off))
      ]

  pub closed-set : opens (role_at rs x) ≡ true → (n : ℕ) → x < n → set (map g (opening_places rs n)) (number_of rs x) (h x) ≡ map h (opening_places rs n)
  closed-set on-x zero lt = absurd (omega arith)
  closed-set on-x (suc n) lt =
      elim (cases_Bool (opens (role_at rs n))) [
        | inl on ↦
            let long : length (map g (opening_places rs n)) ≡ number_of rs n = length-map (opening_places rs n) g in
            let last : set (map g (opening_places rs n) ++ g n ∷ []) (number_of rs x) (h x) ≡ map h (opening_places rs n) ++ h n ∷ [] =
            elim (cases_eq x n) [
              | inl e ↦
                  let same : number_of rs x ≡ number_of rs n = ap (number_of rs) e in
                  let at : number_of rs x - number_of rs n ≡ 0 = omega arith in
                  set-append_right (map g (opening_places rs n)) (g n ∷ []) (number_of rs n) (number_of rs x) (h x) long (omega arith)
                  ∙ ap (λ k. map g (opening_places rs n) ++ set (g n ∷ []) k (h x)) at
                  ∙ ap₂ (λ os i. os ++ h i ∷ []) (before-same n (omega arith)) e
              | inr ne ↦
                  let before = number-less rs x n on-x (omega arith) in
                  set-append_left (map g (opening_places rs n)) (g n ∷ []) (number_of rs x) (h x) (omega arith)
                  ∙ ap₂ (λ os o. os ++ o ∷ []) (closed-set on-x n (omega arith)) (sym (other n (omega arith)))
            ] in
            ap (λ os. set os (number_of rs x) (h x)) (ap (map g) (opened-on rs n on) ∙ map-append g (opening_places rs n) (n ∷ []))
            ∙ last ∙ sym (ap (map h) (opened-on rs n on) ∙ map-append h (opening_places rs n) (n ∷ []))
        | inr off ↦
            let apart : x ≢ n = λ e. false≢true (sym off ∙ subst (λ k. opens (role_at rs k) ≡ true) e on-x) in
            ap (λ os. set (map g os) (number_of rs x) (h x)) (opened-same rs n off)
            ∙ closed-set on-x n (omega arith) ∙ sym (ap (map h) (opened-same rs n off))
      ]

-- what the search holds before place j
pub record IsSearched (rs : List Role) (j : ℕ) (stack : List Waiting) (openings : List Opened) : Type 0 where
  pub stacked : reverse stack ≡ map (waiting_at rs) (open_at rs (pairs_before rs j) j)
  pub told : openings ≡ map (opening_of (pairs_before rs j)) (opening_places rs j)
  pub room : find (is_one_too_many rs) (places j) ≡ None

pub searched-is : (rs : List Role) (j : ℕ) (stack stack' : List Waiting) (openings openings' : List Opened) → stack ≡ stack' → openings ≡ openings' →
    IsSearched rs j stack' openings' → IsSearched rs j stack openings
searched-is rs j stack stack' openings openings' e f s = rw (e, f) s

-- the length of a stack
pub stacked-length : (rs : List Role) (j : ℕ) (stack : List Waiting) (openings : List Opened) → IsSearched rs j stack openings →
    length stack ≡ length (open_at rs (pairs_before rs j) j)
stacked-length rs j stack openings s =
    sym (length-reverse stack) ∙ ap length s.stacked ∙ length-map (open_at rs (pairs_before rs j) j) (waiting_at rs)

room-more : (rs : List Role) (j : ℕ) → find (is_one_too_many rs) (places j) ≡ None → is_one_too_many rs j ≡ false → find (is_one_too_many rs) (places (suc j)) ≡ None
room-more rs j h e = find-append (is_one_too_many rs) (places j) (j ∷ []) ∙ rw (h, e) refl

-- no pair that is closed before j opens at j or after it
pub opened-later : (j i : ℕ) (pairs : List Pair) → AreBefore j pairs → j ≤ i → find (opens_at i) pairs ≡ None
opened-later j i [] h le = refl
opened-later j i (p ∷ pairs) h le = rw (ne_eqb p.opening i (λ same. absurd (let lt = h.0.0 in let before = h.0.1 in omega arith))) (opened-later j i pairs h.1 le)

waiting_eq : (i m n p q : ℕ) → m ≡ n → p ≡ q →
    (let v : Waiting = record { place = i; number = m; partner = p } in v) ≡ (let w : Waiting = record { place = i; number = n; partner = q } in w)
waiting_eq i m n p q e f = ap₂ (λ x y. let w : Waiting = record { place = i; number = x; partner = y } in w) e f

opening_eq : (i : ℕ) (m n : Option ℕ) → m ≡ n → (let v : Opened = record { place = i; closing = m } in v) ≡ (let w : Opened = record { place = i; closing = n } in w)
opening_eq i m n e = ap (λ x. let w : Opened = record { place = i; closing = x } in w) e

-- an opening bracket that finds room waits
pub step-open : (rs : List Role) (j c k : ℕ) (stack : List Waiting) (openings : List Opened) → IsSearched rs j stack openings →
    role_at rs j ≡ Opening c → length stack < 63 → k ≡ length openings →
    IsSearched rs (j + 1) (stack ++ (record { place = j; number = k; partner = c }) ∷ []) (openings ++ (record { place = j; closing = None }) ∷ [])
step-open rs j c k stack openings s role few count =
    let on : opens (role_at rs j) ≡ true = rw role refl in
    let none : match_at rs (pairs_before rs j) j ≡ None = match-none rs (pairs_before rs j) j j (λ r. not-closed r (role_at rs j) on) in
    let same : pairs_before rs (suc j) ≡ pairs_before rs j = pairs-same rs j none in
    let len : length stack ≡ length (open_at rs (pairs_before rs j) j) = stacked-length rs j stack openings s in
    let number : k ≡ number_of rs j = count ∙ ap length s.told ∙ length-map (opening_places rs j) (opening_of (pairs_before rs j)) in
    let first : (let w : Waiting = record { place = j; number = k; partner = c } in w) ≡ waiting_at rs j =
    waiting_eq j k (number_of rs j) c (partner_of (role_at rs j)) number (sym (ap partner_of role)) in
    let waits : (let o : Opened = record { place = j; closing = None } in o) ≡ opening_of (pairs_before rs j) j =
    opening_eq j None (closing_of (pairs_before rs j) j) (sym (ap (option_map (λ p. p.closing)) (opened-later j j (pairs_before rs j) (before-pairs rs j) (omega arith)))) in
    let covers : is_open rs (pairs_before rs j) j ≡ true =
    ap₂ (λ a b. a && not b) on (not-covered j (pairs_before rs j) (before-pairs rs j)) in
    rw add-one (record {
      stacked = reverse-append stack ((record { place = j; number = k; partner = c }) ∷ [])
          ∙ ap₂ (λ w ws. w ∷ ws) first s.stacked
          ∙ sym (ap (λ (b : Bool). map (waiting_at rs) (cond b (j ∷ open_at rs (pairs_before rs j) j) (open_at rs (pairs_before rs j) j))) covers)
          ∙ ap (λ (pairs : List Pair). map (waiting_at rs) (open_at rs pairs (suc j))) (sym same);
      told = ap₂ (λ os o. os ++ o ∷ []) s.told waits
          ∙ sym (ap (map (opening_of (pairs_before rs j))) (opened-on rs j on) ∙ map-append (opening_of (pairs_before rs j)) (opening_places rs j) (j ∷ []))
          ∙ ap (λ (pairs : List Pair). map (opening_of pairs) (opening_places rs (suc j))) (sym same);
      room = room-more rs j s.room (and_right (opens (role_at rs j)) _ (lt-leb 63 (length (open_at rs (pairs_before rs j) j)) (omega arith)));
    })

-- where no pair is made and nothing opens, all stays the same
pub step-same : (rs : List Role) (j : ℕ) (stack : List Waiting) (openings : List Opened) → IsSearched rs j stack openings →
    opens (role_at rs j) ≡ false → match_at rs (pairs_before rs j) j ≡ None → IsSearched rs (j + 1) stack openings
step-same rs j stack openings s shut none =
    let same : pairs_before rs (suc j) ≡ pairs_before rs j = pairs-same rs j none in
    rw add-one (record {
      stacked = subst (λ (pairs : List Pair). reverse stack ≡ map (waiting_at rs) (open_at rs pairs (suc j))) (sym same) (rw shut s.stacked);
      told = s.told ∙ sym (ap (map (opening_of (pairs_before rs j))) (opened-same rs j shut))
          ∙ ap (λ (pairs : List Pair). map (opening_of pairs) (opening_places rs (suc j))) (sym same);
      room = room-more rs j s.room (and_left (opens (role_at rs j)) _ shut);
    })

pub step-neither : (rs : List Role) (j : ℕ) (stack : List Waiting) (openings : List Opened) → IsSearched rs j stack openings →
    role_at rs j ≡ Neither → IsSearched rs (j + 1) stack openings
step-neither rs j stack openings s role =
    step-same rs j stack openings s (rw role refl) (match-none rs (pairs_before rs j) j j (λ r. rw role (not-by-neither r)))

pub opened-passes : (rs : List Role) (pairs : List Pair) (i : ℕ) → is_open rs pairs i ≡ true → opens (role_at rs i) ≡ true
opened-passes rs pairs i h = (and_parts (opens (role_at rs i)) _ h).0

-- what a closing bracket finds on the stack is what it matches
found : (rs : List Role) (j c : ℕ) (stack : List Waiting) (openings : List Opened) → IsSearched rs j stack openings → role_at rs j ≡ Closing c →
    closed_by c (reverse stack)
    ≡ option_map (cut rs (is_open rs (pairs_before rs j))) (match_at rs (pairs_before rs j) j)
found rs j c stack openings s role =
    rw (s.stacked, role) (closed-places rs (is_open rs (pairs_before rs j)) c j (opened-passes rs (pairs_before rs j)))

-- a closing bracket that nothing waits for
pub step-unmatched : (rs : List Role) (j c : ℕ) (stack : List Waiting) (openings : List Opened) → IsSearched rs j stack openings →
    role_at rs j ≡ Closing c → closed_by c (reverse stack) ≡ None → IsSearched rs (j + 1) stack openings
step-unmatched rs j c stack openings s role none =
    step-same rs j stack openings s (rw role refl) (go (match_at rs (pairs_before rs j) j) (sym (found rs j c stack openings s role) ∙ none))
  where
    go : (o : Option ℕ) → option_map (cut rs (is_open rs (pairs_before rs j))) o ≡ None → o ≡ None
    go None e = refl
    go (Some i) e = absurd (cc)

-- a pair's opening bracket, and what is left on the stack
pub record IsMatched (rs : List Role) (j : ℕ) (w : Waiting) (stack : List Waiting) : Type 0 where
  pub match : match_at rs (pairs_before rs j) j ≡ Some w.place
  pub number : number_of rs w.place ≡ w.number
  pub left : reverse stack ≡ map (waiting_at rs) (filter (is_open rs (pairs_before rs j)) (places_back w.place))
  pub below : w.place < j
  pub opened : is_open rs (pairs_before rs j) w.place ≡ true

-- what is known of a match whose parts are these
pub record IsFound (rs : List Role) (j : ℕ) (o : Option ℕ) (w : Waiting) (stack : List Waiting) : Type 0 where
  pub match : o ≡ Some w.place
  pub number : number_of rs w.place ≡ w.number
  pub left : reverse stack ≡ map (waiting_at rs) (filter (is_open rs (pairs_before rs j)) (places_back w.place))

matched : (rs : List Role) (j c : ℕ) (w : Waiting) (stack rest : List Waiting) (openings : List Opened) → IsSearched rs j stack openings →
    role_at rs j ≡ Closing c → closed_by c (reverse stack) ≡ Some (w, reverse rest) → IsMatched rs j w rest
matched rs j c w stack rest openings s role e =
    let f = go (match_at rs (pairs_before rs j) j) (sym (found rs j c stack openings s role) ∙ e) in
    let at = greatest-before (λ k. is_open rs (pairs_before rs j) k && is_closed_by (role_at rs k) (role_at rs j)) j w.place f.match in
    record { match = f.match; number = f.number; left = f.left; below = at.0; opened = (and_parts (is_open rs (pairs_before rs j) w.place) _ at.1).0 }
  where
    go : (o : Option ℕ) → option_map (cut rs (is_open rs (pairs_before rs j))) o ≡ Some (w, reverse rest) → IsFound rs j o w rest
    go None e = absurd (cc)
    go (Some i) e =
        let parts = some_pair_parts (waiting_at rs i) w (map (waiting_at rs) (filter (is_open rs (pairs_before rs j)) (places_back i))) (reverse rest) e in
        let place : i ≡ w.place = ap (λ (v : Waiting). v.place) parts.0 in
        record {
          match = ap (λ (k : ℕ). Some k) place;
          number = ap (number_of rs) (sym place) ∙ ap (λ (v : Waiting). v.number) parts.0;
          left = sym parts.1 ∙ ap (λ (k : ℕ). map (waiting_at rs) (filter (is_open rs (pairs_before rs j)) (places_back k))) place;
        }

or-true : (b : Bool) → (b || true) ≡ true
or-true true = refl
or-true false = refl

or-false : (b : Bool) → (b || false) ≡ b
or-false true = refl
or-false false = refl

and-false : (b : Bool) → (b && false) ≡ false
and-false true = refl
and-false false = refl

-- what an added pair covers
covers-added : (i : ℕ) (pairs : List Pair) (p : Pair) →
    list_any (λ q. leb q.opening i && ltb i q.closing) (pairs ++ p ∷ []) ≡ (list_any (λ q. leb q.opening i && ltb i q.closing) pairs || (leb p.opening i && ltb i p.closing))
covers-added i [] p = or-false (leb p.opening i && ltb i p.closing)
covers-added i (q ∷ pairs) p =
    rw (covers-added i pairs p) (or-assoc (leb q.opening i && ltb i q.closing) (list_any (λ q. leb q.opening i && ltb i q.closing) pairs) (leb p.opening i && ltb i p.closing))
  where
    or-assoc : (a b c : Bool) → (a || (b || c)) ≡ ((a || b) || c)
    or-assoc true b c = refl
    or-assoc false b c = refl

-- from the opening bracket of a new pair on nothing is open, and before it what was open
cut-none : (rs : List Role) (pairs : List Pair) (x j i : ℕ) → opens (role_at rs j) ≡ false → x ≤ i → i < suc j →
    is_open rs (pairs ++ (record { opening = x; closing = j }) ∷ []) i ≡ false
cut-none rs pairs x j i shut from to =
    elim (cases_eq i j) [
      | inl e ↦ rw (e, shut) refl
      | inr ne ↦ rw (covers-added i pairs (record { opening = x; closing = j }), le-leb x i from, lt-ltb i j (omega arith), or-true _) (and-false _)
    ]

cut-same : (rs : List Role) (pairs : List Pair) (x j i : ℕ) → i < x → is_open rs (pairs ++ (record { opening = x; closing = j }) ∷ []) i ≡ is_open rs pairs i
cut-same rs pairs x j i h = rw (covers-added i pairs (record { opening = x; closing = j }), lt-leb x i h, or-false _) refl

-- an open place is in no pair yet
not-opened : (j x : ℕ) (pairs : List Pair) → AreBefore j pairs → list_any (λ p. leb p.opening x && ltb x p.closing) pairs ≡ false → find (opens_at x) pairs ≡ None
not-opened j x [] h e = refl
not-opened j x (p ∷ pairs) h e =
    let parts = or_parts (leb p.opening x && ltb x p.closing) (list_any (λ q. leb q.opening x && ltb x q.closing) pairs) e in
    let other : eqb p.opening x ≡ false = ne_eqb p.opening x (λ same. false≢true (sym parts.0 ∙ and_from _ _ (le-leb p.opening x (omega arith)) (lt-ltb x p.closing (omega arith)))) in
    rw other (not-opened j x pairs h.1 parts.1)

option-or-none : (o : Option Pair) → option_or o None ≡ o
option-or-none None = refl
option-or-none (Some p) = refl

closing-added : (pairs : List Pair) (x j i : ℕ) → i ≢ x → closing_of (pairs ++ (record { opening = x; closing = j }) ∷ []) i ≡ closing_of pairs i
closing-added pairs x j i ne =
    rw (find-append (opens_at i) pairs ((record { opening = x; closing = j }) ∷ []), ne_eqb x i (λ e. ne (sym e)), option-or-none (find (opens_at i) pairs)) refl

closing-new : (pairs : List Pair) (x j : ℕ) → find (opens_at x) pairs ≡ None → closing_of (pairs ++ (record { opening = x; closing = j }) ∷ []) x ≡ Some j
closing-new pairs x j none = rw (find-append (opens_at x) pairs ((record { opening = x; closing = j }) ∷ []), none, eq-eqb x x refl) refl

-- a closing bracket that something waits for
pub step-matched : (rs : List Role) (j c : ℕ) (w : Waiting) (stack rest : List Waiting) (openings : List Opened) → IsSearched rs j stack openings →
    role_at rs j ≡ Closing c → closed_by c (reverse stack) ≡ Some (w, reverse rest) →
    IsSearched rs (j + 1) rest (set openings w.number (record { place = w.place; closing = Some j }))
step-matched rs j c w stack rest openings s role e =
    let m = matched rs j c w stack rest openings s role e in
    let x = w.place in
    let more : pairs_before rs (suc j) ≡ pairs_before rs j ++ (record { opening = w.place; closing = j }) ∷ [] = pairs-more rs j x m.match in
    let shut : opens (role_at rs j) ≡ false = rw role refl in
    let below = m.below in
    let on : opens (role_at rs w.place) ≡ true = opened-passes rs (pairs_before rs j) x m.opened in
    let free : find (opens_at w.place) (pairs_before rs j) ≡ None =
    not-opened j x (pairs_before rs j) (before-pairs rs j) (not-true _ (and_parts (opens (role_at rs x)) _ m.opened).1) in
    let pairs = pairs_before rs j ++ (record { opening = x; closing = j }) ∷ [] in
    rw add-one (record {
      stacked = subst (λ (pairs : List Pair). reverse rest ≡ map (waiting_at rs) (open_at rs pairs (suc j))) (sym more) (m.left ∙ ap (map (waiting_at rs))
          (sym (filter-cut (is_open rs (pairs_before rs j ++ (record { opening = x; closing = j }) ∷ [])) (is_open rs (pairs_before rs j)) x (suc j) (omega arith)
          (λ i from to. cut-none rs (pairs_before rs j) x j i shut from to) (λ i h. cut-same rs (pairs_before rs j) x j i h))));
      told = ap₂ (λ os k. set os k (let o : Opened = record { place = x; closing = Some j } in o)) s.told (sym m.number)
          ∙ ap (set (map (opening_of (pairs_before rs j)) (opening_places rs j)) (number_of rs x)) (opening_eq x (Some j) (closing_of pairs x) (sym (closing-new (pairs_before rs j) x j free)))
          ∙ closed-set rs (opening_of (pairs_before rs j)) (opening_of pairs) x
          (λ i ne. opening_eq i (closing_of pairs i) (closing_of (pairs_before rs j) i) (closing-added (pairs_before rs j) x j i ne)) on j m.below
          ∙ ap (map (opening_of pairs)) (sym (opened-same rs j shut))
          ∙ ap (λ (ps : List Pair). map (opening_of ps) (opening_places rs (suc j))) (sym more);
      room = room-more rs j s.room (and_left (opens (role_at rs j)) _ shut);
    })

pub matched-within : (rs : List Role) (j c : ℕ) (w : Waiting) (stack rest : List Waiting) (openings : List Opened) → IsSearched rs j stack openings →
    role_at rs j ≡ Closing c → closed_by c (reverse stack) ≡ Some (w, reverse rest) → w.number < length openings
matched-within rs j c w stack rest openings s role e =
    let m = matched rs j c w stack rest openings s role e in
    let less = number-less rs w.place j (opened-passes rs (pairs_before rs j) w.place m.opened) m.below in
    let len : length openings ≡ number_of rs j = ap length s.told ∙ length-map (opening_places rs j) (opening_of (pairs_before rs j)) in
    let number = m.number in
    omega arith
