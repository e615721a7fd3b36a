-- What the rules do to a sequence of plain types at level 0 between L and L: no direction but L, and no number.
use Rattle.std.proofs.Common.{ℕ, suc, ◌+◌, ◌≡◌, refl, ap, sym, subst, ◌∙◌, List, [], ◌∷◌, map, fold, take, drop, slice_range, Bool, true, false, Some, None}
use Rattle.std.specs.Prelude.{not, ◌&&◌, ◌||◌, if◌then◌else◌}
use Rattle.std.specs.List.{All}
use Rattle.std.proofs.Math.Bool.{and-false}
use Rattle.std.proofs.lemmas.Bool.{false≢true}
use Rattle.std.proofs.lemmas.List.Elements.{All-nil, All-cons, All-head, All-tail, All-map, All-append, All-take, All-drop, All-weaker}
use Rattle.bg_types.specs.declared.class.Bidi.{Bidi}
use Rattle.bg_types.specs.declared.class.Bidi.TheVariants.{L, R, Al, En, Es, Et, An, Cs, Nsm, B, S, Ws, On}
use Rattle.unicode_tables.specs.Tables.{TableValues}
use Rattle.bracket_pairs.specs.Pairs.{Pair, roles, pairs_in_order}
use Rattle.bracket_pairs.specs.N0.{direction_of_level, direction_of, opposite, is_direction, has_strong, pair_direction, is_nonspacing, marks_set, bracket_set, pair_set, pair_resolved, last_strong, n0}
use Rattle.bg_types.specs.Classes.{is_isolate_control}
use Rattle.bidi_weak_neutral.specs.Classes.{is, is_strong, is_number, is_neutral, direction, is_plain}
use Rattle.bidi_weak_neutral.specs.Context.{in_context_from, nearest}
use Rattle.bidi_weak_neutral.specs.Weak.{mark_type, first_type, past_terminators, is_joined, w1, w2, w3, w4, w5, w6, w7, weak_types}
use Rattle.bidi_weak_neutral.specs.Neutral.{side, n1, n2, implicit_level}

abbrev pub Plain : Bidi → Type 0
Plain c = is_plain c ≡ true

-- plain, and no EN
unfoldable is_calm : Bidi → Bool
is_calm L = true
is_calm Es = true
is_calm Et = true
is_calm Cs = true
is_calm Nsm = true
is_calm B = true
is_calm S = true
is_calm Ws = true
is_calm On = true
is_calm _ = false

abbrev Calm : Bidi → Type 0
Calm c = is_calm c ≡ true

-- maps over a list in context
in_context_from-all : {A B : Type 0} (P : A → Type 0) (Q : B → Type 0) (f : List A → A → List A → B)
    → ((before : List A) (x : A) (after : List A) → All P before → P x → All P after → Q (f before x after))
    → (before xs : List A) → All P before → All P xs → All Q (in_context_from f before xs)
in_context_from-all P Q f keeps before [] b a = All-nil Q
in_context_from-all P Q f keeps before (x ∷ xs) b a =
    let p = All-head P x xs a in
    let ps = All-tail P x xs a in
    All-cons Q (f before x xs) (in_context_from f (x ∷ before) xs) (keeps before x xs b p ps)
    (in_context_from-all P Q f keeps (x ∷ before) xs (All-cons P x before p b) ps)

nearest-all : {A : Type 0} (P : A → Type 0) (passes : A → Bool) (d : A) (xs : List A) → P d → All P xs → P (nearest passes d xs)
nearest-all P passes d [] p a = p
nearest-all P passes d (x ∷ xs) p a =
    elim (passes x) as (λ b. P (if b then x else nearest passes d xs)) [ true ↦ All-head P x xs a | false ↦ nearest-all P passes d xs p (All-tail P x xs a) ]

if-all : {A : Type 0} (P : A → Type 0) (b : Bool) (x y : A) → P x → P y → P (if b then x else y)
if-all P true x y p q = p
if-all P false x y p q = q

plain-L : Plain L
unfolding is_plain
plain-L = refl

pub plain-On : Plain On
unfolding is_plain
plain-On = refl

plain-En : Plain En
unfolding is_plain
plain-En = refl

plain-no-Al : (c : Bidi) → Plain c → is c Al ≡ false
unfolding is_plain
plain-no-Al Al p = absurd (false≢true p)
plain-no-Al c p = refl

strong-plain : (c : Bidi) → Plain c → is_strong c ≡ true → c ≡ L
unfolding is_plain is_strong
strong-plain L p s = refl
strong-plain R p s = absurd (false≢true p)
strong-plain Al p s = absurd (false≢true p)
strong-plain c p s = absurd (false≢true s)

strong-first-plain : (c s : Bidi) (b : Bool) → is_strong c ≡ b → Plain c → s ≡ L → (if is_strong c then c else s) ≡ L
strong-first-plain c s true e p r = ap (λ b. if b then c else s) e ∙ strong-plain c p e
strong-first-plain c s false e p r = ap (λ b. if b then c else s) e ∙ r

last_strong-plain : (before : List Bidi) → All Plain before → nearest is_strong L before ≡ L
last_strong-plain [] a = refl
last_strong-plain (c ∷ cs) a = strong-first-plain c (nearest is_strong L cs) (is_strong c) refl (All-head Plain c cs a) (last_strong-plain cs (All-tail Plain c cs a))

-- W1 to W6 keep plain types plain
w1-plain : (types : List Bidi) → All Plain types → All Plain (w1 L types)
w1-plain types a =
    in_context_from-all Plain Plain _
    (λ before c after b p e.
    let base = nearest-all Plain (λ x. not (is x Nsm)) L before plain-L b in
    if-all Plain (is c Nsm) (mark_type (nearest (λ x. not (is x Nsm)) L before)) c
    (if-all Plain (is_isolate_control (nearest (λ x. not (is x Nsm)) L before)) On (nearest (λ x. not (is x Nsm)) L before) plain-On base) p)
    [] types (All-nil Plain) a

w2-plain : (types : List Bidi) → All Plain types → All Plain (w2 L types)
w2-plain types a =
    in_context_from-all Plain Plain _
    (λ before c after b p e.
    let same = ap (λ s. is s Al) (last_strong-plain before b) in
    subst (λ t. Plain (if is c En && t then An else c)) (sym same)
    (subst (λ t. Plain (if t then An else c)) (sym (and-false (is c En))) p))
    [] types (All-nil Plain) a

w3-plain : (types : List Bidi) → All Plain types → All Plain (w3 types)
w3-plain types a =
    All-map Plain (λ c. if is c Al then R else c) types
    (All-weaker Plain (λ c. Plain (if is c Al then R else c)) (λ c p. subst (λ t. Plain (if t then R else c)) (sym (plain-no-Al c p)) p) types a)

w4-plain : (types : List Bidi) → All Plain types → All Plain (w4 types)
w4-plain types a =
    in_context_from-all Plain Plain _
    (λ before c after b p e.
    if-all Plain (is_joined (first_type before) c (first_type after)) (first_type before) c
    (nearest-all Plain (λ x. true) On before plain-On b) p)
    [] types (All-nil Plain) a

w5-plain : (types : List Bidi) → All Plain types → All Plain (w5 types)
w5-plain types a =
    in_context_from-all Plain Plain _
    (λ before c after b p e.
    if-all Plain (is c Et && (is (past_terminators before) En || is (past_terminators after) En)) En c plain-En p)
    [] types (All-nil Plain) a

w6-plain : (types : List Bidi) → All Plain types → All Plain (w6 types)
w6-plain types a =
    All-map Plain (λ c. if is c Es || is c Et || is c Cs then On else c) types
    (All-weaker Plain (λ c. Plain (if is c Es || is c Et || is c Cs then On else c))
    (λ c p. if-all Plain (is c Es || is c Et || is c Cs) On c plain-On p) types a)

-- W7 leaves no EN
w7-at_L : (c : Bidi) → Plain c → Calm (if is c En && is L L then L else c)
unfolding is_plain is_calm
w7-at_L L p = refl
w7-at_L En p = refl
w7-at_L Es p = refl
w7-at_L Et p = refl
w7-at_L Cs p = refl
w7-at_L Nsm p = refl
w7-at_L B p = refl
w7-at_L S p = refl
w7-at_L Ws p = refl
w7-at_L On p = refl
w7-at_L c p = absurd (false≢true p)

w7-at : (c s : Bidi) → Plain c → s ≡ L → Calm (if is c En && is s L then L else c)
w7-at c s p e = subst (λ t. Calm (if is c En && is t L then L else c)) (sym e) (w7-at_L c p)

w7-calm : (types : List Bidi) → All Plain types → All Calm (w7 L types)
w7-calm types a =
    in_context_from-all Plain Calm _
    (λ before c after b p e. w7-at c (nearest is_strong L before) p (last_strong-plain before b)) [] types (All-nil Plain) a

weak-calm : (types : List Bidi) → All Plain types → All Calm (weak_types L types)
weak-calm types a =
    let t1 = w1 L types in let a1 = w1-plain types a in
    let t2 = w2 L t1 in let a2 = w2-plain t1 a1 in
    let t3 = w3 t2 in let a3 = w3-plain t2 a2 in
    let t4 = w4 t3 in let a4 = w4-plain t3 a3 in
    let t5 = w5 t4 in let a5 = w5-plain t4 a4 in
    w7-calm (w6 t5) (w6-plain t5 (w5-plain t4 a4))

-- N0: no type goes right to left, so no pair does
calm-left : (c : Bidi) → Calm c → is_direction (opposite (direction_of_level 0)) (direction_of c) ≡ false
unfolding is_calm direction_of
calm-left L p = refl
calm-left R p = absurd (false≢true p)
calm-left En p = absurd (false≢true p)
calm-left An p = absurd (false≢true p)
calm-left c p = refl

none-right : (types : List Bidi) → All Calm types → has_strong (opposite (direction_of_level 0)) types ≡ false
none-right [] a = refl
none-right (c ∷ cs) a =
    ap (λ b. b || has_strong (opposite (direction_of_level 0)) cs) (calm-left c (All-head Calm c cs a)) ∙ none-right cs (All-tail Calm c cs a)

calm-L : Calm L
unfolding is_calm
calm-L = refl

marks-calm : (before types : List Bidi) → All Calm types → All Calm (marks_set L before types)
marks-calm before [] a = All-nil Calm
marks-calm [] (u ∷ types) a = a
marks-calm (b ∷ before) (u ∷ types) a =
    let rest = marks-calm before types (All-tail Calm u types a) in
    if-all (All Calm) (is_nonspacing b) (L ∷ marks_set L before types) (u ∷ types) (All-cons Calm L _ calm-L rest) a

bracket-calm : (before types : List Bidi) (place : ℕ) → All Calm types → All Calm (bracket_set L before types place)
unfolding bracket_set
bracket-calm before types place a =
    All-append Calm (take place types) _ (All-take Calm place types a)
    (All-cons Calm L _ calm-L (marks-calm (drop (suc place) before) (drop (suc place) types) (All-drop Calm (suc place) types a)))

pair-calm : (before types : List Bidi) (pair : Pair) → All Calm types
    → All Calm (pair_resolved (direction_of_level 0) (direction_of L) before types pair)
unfolding pair_direction
pair-calm before types pair a =
    let inside = slice_range types (pair.opening + 1) pair.closing in
    let first = last_strong (direction_of L) (take pair.opening types) in
    let none = none-right inside (All-take Calm _ _ (All-drop Calm (pair.opening + 1) types a)) in
    let e = direction_of_level 0 in
    let o = opposite (direction_of_level 0) in
    subst (λ right. All Calm (pair_set (if has_strong e inside then Some e else (if right then Some (if is_direction o first then o else e) else None)) before types pair)) (sym none)
    (elim (has_strong e inside) as (λ b. All Calm (pair_set (if b then Some e else None) before types pair)) [
      | true ↦ bracket-calm before (bracket_set L before types pair.opening) pair.closing (bracket-calm before types pair.opening a)
      | false ↦ a
    ])

pairs-calm : (before types : List Bidi) (pairs : List Pair) → All Calm types
    → All Calm (fold (pair_resolved (direction_of_level 0) (direction_of L) before) types pairs)
pairs-calm before types [] a = a
pairs-calm before types (pair ∷ pairs) a =
    pairs-calm before (pair_resolved (direction_of_level 0) (direction_of L) before types pair) pairs (pair-calm before types pair a)

n0-calm : (tables : TableValues) (chars : List ℕ) (before types : List Bidi) → All Calm types → All Calm (n0 tables 0 L chars before types)
unfolding n0
n0-calm tables chars before types a = pairs-calm before types (pairs_in_order (roles tables chars types)) a

-- N1, N2, I1
calm-no-number : (c : Bidi) → Calm c → is_number c ≡ false
unfolding is_calm is_number
calm-no-number En p = absurd (false≢true p)
calm-no-number An p = absurd (false≢true p)
calm-no-number c p = refl

direction-calm : (c : Bidi) → Calm c → Calm (direction c)
direction-calm c p = subst (λ b. Calm (if b then R else c)) (sym (calm-no-number c p)) p

n1-calm : (types : List Bidi) → All Calm types → All Calm (n1 L L types)
n1-calm types a =
    in_context_from-all Calm Calm _
    (λ before c after b p e.
    if-all Calm (is_neutral c && is (side L before) (side L after)) (side L before) c
    (direction-calm _ (nearest-all Calm (λ x. not (is_neutral x)) L before calm-L b)) p)
    [] types (All-nil Calm) a

n2-calm : (types : List Bidi) → All Calm types → All Calm (n2 0 types)
n2-calm types a =
    All-map Calm (λ c. if is_neutral c then L else c) types
    (All-weaker Calm (λ c. Calm (if is_neutral c then L else c)) (λ c p. if-all Calm (is_neutral c) L c calm-L p) types a)

calm-level : (c : Bidi) → Calm c → implicit_level 0 c ≡ 0
unfolding is_calm is_number
calm-level R p = absurd (false≢true p)
calm-level En p = absurd (false≢true p)
calm-level An p = absurd (false≢true p)
calm-level c p = refl

-- all levels of a sequence of plain types
pub plain-levels : (tables : TableValues) (chars : List ℕ) (before : List Bidi) → All Plain before
    → All (λ l. l ≡ 0) (map (implicit_level 0) (n2 0 (n1 L L (n0 tables 0 L chars before (weak_types L before)))))
plain-levels tables chars before a =
    let w = weak_types L before in
    let b = n0 tables 0 L chars before w in
    All-map (λ l. l ≡ 0) (implicit_level 0) (n2 0 (n1 L L b))
    (All-weaker Calm (λ c. implicit_level 0 c ≡ 0) calm-level (n2 0 (n1 L L b))
    (n2-calm (n1 L L b) (n1-calm b (n0-calm tables chars before w (weak-calm before a)))))
