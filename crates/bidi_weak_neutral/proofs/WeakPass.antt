-- W1 to W7 in one pass.
use Rattle.std.proofs.Common.{ℕ, ◌+◌, ◌<◌, ◌≡◌, refl, ap, sym, ◌∙◌, List, [], ◌∷◌, ◌++◌, take, drop, set, length, get_or, zero, suc, Bool, true, false, arith}
use Rattle.std.specs.Prelude.{not, ◌&&◌, ◌||◌, if◌then◌else◌}
use Rattle.std.proofs.Math.Bool.{and-false}
use Rattle.std.proofs.lemmas.Bool.{false≢true}
use Rattle.std.proofs.lemmas.List.{drop_more, take_more_set, append_assoc}
use Rattle.bg_types.specs.declared.class.Bidi.{Bidi}
use Rattle.bg_types.specs.declared.class.Bidi.TheVariants.{L, R, Al, En, Es, Et, An, Cs, Nsm, On}
use Rattle.bg_types.specs.Classes.{is_isolate_control}
use Rattle.bidi_weak_neutral.specs.Classes.{is, is_strong}
use Rattle.bidi_weak_neutral.specs.Context.{nearest}
use Rattle.bidi_weak_neutral.specs.Weak.{first_type, is_joined, past_terminators, w1, w2, w3, w4, w5, w6, w7, weak_types}
use Rattle.bidi_weak_neutral.specs.Pass.{marked, unmarked, strong_behind, lettered, joined, terminated, unterminated, separated, settled, is_past_terminators, is_weak}
use Rattle.bidi_weak_neutral.proofs.Scan.{scan}
use Rattle.bidi_weak_neutral.proofs.WeakScans.{w1_at, w2_at, w4_at, w4_step, w5_at, w7_at, w1-is, w2-is, w4-is, w5-is, w7-is}

-- W1 to W3
abbrev letters : (base strong : Bidi) → List Bidi → List Bidi
letters base strong [] = []
letters base strong (x ∷ xs) =
    let c = marked base x in
    lettered strong c ∷ letters (unmarked base x) (strong_behind strong c) xs

letters-is : (base strong : Bidi) (xs : List Bidi) → w3 (scan w2_at strong_behind strong (scan w1_at unmarked base xs)) ≡ letters base strong xs
letters-is base strong [] = refl
letters-is base strong (x ∷ xs) =
    ap (λ t. lettered strong (marked base x) ∷ t) (letters-is (unmarked base x) (strong_behind strong (marked base x)) xs)

-- W4 to W7
abbrev numbers : (strong last beside : Bidi) → List Bidi → List Bidi
numbers strong last beside [] = []
numbers strong last beside (y ∷ ys) =
    let j = joined last y (first_type ys) in
    let u = separated (terminated beside j (past_terminators ys)) in
    settled strong u ∷ numbers (strong_behind strong u) y (unterminated beside j) ys

-- a separator joins numbers alone
number-joins : (A B C D E : Bool) → (A && ((B && D) || (C && (D || E)))) ≡ true → (D || E) ≡ true
number-joins A B C true E h = refl
number-joins A B C false true h = refl
number-joins false B C false false h = h
number-joins true true true false false h = h
number-joins true true false false false h = h
number-joins true false true false false h = h
number-joins true false false false false h = h

none-joins : (A B C : Bool) → (A && ((B && false) || (C && false))) ≡ false
none-joins false B C = refl
none-joins true true true = refl
none-joins true true false = refl
none-joins true false true = refl
none-joins true false false = refl

number-no-Et : (c : Bidi) → (is c En || is c An) ≡ true → is c Et ≡ false
number-no-Et Et h = absurd (false≢true h)
number-no-Et c h = refl

number-weak : (c : Bidi) → (is c En || is c An) ≡ true → is_strong c ≡ false
unfolding is_strong
number-weak L h = absurd (false≢true h)
number-weak R h = absurd (false≢true h)
number-weak Al h = absurd (false≢true h)
number-weak c h = refl

joins-number : (last y a : Bidi) → is_joined last y a ≡ true → (is last En || is last An) ≡ true
joins-number last y a = number-joins (is last a) (is y Es) (is y Cs) (is last En) (is last An)

joined-if : (b : Bool) (last y : Bidi) → (b ≡ true → is last Et ≡ false) → is (if b then last else y) Et ≡ true → is y Et ≡ true
joined-if true last y h e = absurd (false≢true (sym (h refl) ∙ e))
joined-if false last y h e = e

-- what W4 leaves ET was ET
joined-Et : (last y a : Bidi) → is (joined last y a) Et ≡ true → is y Et ≡ true
joined-Et last y a = joined-if (is_joined last y a) last y (λ e. number-no-Et last (joins-number last y a e))

ahead-if : (b x : Bool) (j a a' : Bidi) → (b ≡ true → a ≡ a') → (if b && (x || is a En) then En else j) ≡ (if b && (x || is a' En) then En else j)
ahead-if true x j a a' h = ap (λ a. if x || is a En then En else j) (h refl)
ahead-if false x j a a' h = refl

-- W5 reads ahead at ET alone
ahead : (beside j a a' : Bidi) → (is j Et ≡ true → a ≡ a') → terminated beside j a ≡ terminated beside j a'
ahead beside j a a' h = ahead-if (is j Et) (is beside En) j a a' h

-- past ET, W4 changes nothing that W5 reads
joined-past : (z : Bidi) (ys : List Bidi) → past_terminators (scan w4_at w4_step Et ys) ≡ past_terminators ys
    → past_terminators (z ∷ scan w4_at w4_step z ys) ≡ past_terminators (z ∷ ys)
joined-past Et ys h = h
joined-past z ys h = refl

past-joined : (ys : List Bidi) → past_terminators (scan w4_at w4_step Et ys) ≡ past_terminators ys
past-joined [] = refl
past-joined (z ∷ ys) =
    ap (λ b. past_terminators ((if b then Et else z) ∷ scan w4_at w4_step z ys)) (none-joins (is Et (first_type ys)) (is z Es) (is z Cs))
    ∙ joined-past z ys (past-joined ys)

at-Et : (y : Bidi) (P : Bidi → Type 0) → is y Et ≡ true → P Et → P y
at-Et Et P h p = p
at-Et y P h p = absurd (false≢true h)

numbers-is : (strong last beside : Bidi) (ys : List Bidi)
    → scan w7_at strong_behind strong (w6 (scan w5_at unterminated beside (scan w4_at w4_step last ys))) ≡ numbers strong last beside ys
numbers-is strong last beside [] = refl
numbers-is strong last beside (y ∷ ys) =
    let j = joined last y (first_type ys) in
    let rest = scan w4_at w4_step y ys in
    let u = separated (terminated beside j (past_terminators ys)) in
    let e : terminated beside j (past_terminators rest) ≡ terminated beside j (past_terminators ys) =
    ahead beside j (past_terminators rest) (past_terminators ys)
    (λ h. at-Et y (λ y. past_terminators (scan w4_at w4_step y ys) ≡ past_terminators ys) (joined-Et last y (first_type ys) h) (past-joined ys)) in
    ap
    (λ t. settled strong (separated t) ∷ scan w7_at strong_behind (strong_behind strong (separated t)) (w6 (scan w5_at unterminated (unterminated beside j) rest)))
    e
    ∙ ap (λ r. settled strong u ∷ r) (numbers-is (strong_behind strong u) y (unterminated beside j) ys)

-- the next type that is neither ET nor a mark after it, or ON
abbrev pub past_marks : List Bidi → Bidi
past_marks = nearest is_past_terminators On

-- W1 to W7, by what the pass keeps: the nearest earlier type that isn't NSM, the nearest strong one, the type before, and the nearest
-- one that isn't ET, the last two after W3 and W4
abbrev pub weak_from : (base strong last beside : Bidi) → List Bidi → List Bidi
weak_from base strong last beside [] = []
weak_from base strong last beside (x ∷ xs) =
    let c = marked base x in
    let b = unmarked base x in
    let s = strong_behind strong c in
    let y = lettered strong c in
    let j = joined last y (lettered s (marked b (first_type xs))) in
    settled strong (separated (terminated beside j (lettered s (marked b (past_marks xs)))))
    ∷ weak_from b s y (unterminated beside j) xs

first-letter : (b s : Bidi) (xs : List Bidi) → first_type (letters b s xs) ≡ lettered s (marked b (first_type xs))
first-letter b s [] = refl
first-letter b s (z ∷ zs) = refl

mark-Et : (b : Bool) (base : Bidi) → is (if b then On else base) Et ≡ true → is base Et ≡ true
mark-Et true base h = absurd (false≢true h)
mark-Et false base h = h

-- before ET, after W1, stands ET
unmarked-Et : (base x : Bidi) → is (marked base x) Et ≡ true → is (unmarked base x) Et ≡ true
unmarked-Et base Nsm h = mark-Et (is_isolate_control base) base h
unmarked-Et base x h = h

number-Et : (b : Bool) → is (let c = if b then An else En in if is c Al then R else c) Et ≡ true → true ≡ false
number-Et true h = sym h
number-Et false h = sym h

lettered-Et : (strong c : Bidi) → is (lettered strong c) Et ≡ true → is c Et ≡ true
lettered-Et strong En h = absurd (false≢true (sym (number-Et (is strong Al) h)))
lettered-Et strong Al h = h
lettered-Et strong c h = h

number-past : (b : Bool) (rest : Bidi) → (let c = if b then An else En in let d = if is c Al then R else c in if not (is d Et) then d else rest)
    ≡ (let c = if b then An else En in if is c Al then R else c)
number-past true rest = refl
number-past false rest = refl

past-letters : (s : Bidi) (xs : List Bidi) → past_terminators (letters Et s xs) ≡ lettered s (marked Et (past_marks xs))
unfolding is_strong is_isolate_control
past-letters s [] = refl
past-letters s (Et ∷ xs) = past-letters s xs
past-letters s (Nsm ∷ xs) = past-letters s xs
past-letters s (En ∷ xs) = number-past (is s Al) (past_terminators (letters En s xs))
past-letters s (x ∷ xs) = refl

separated-weak : (b : Bool) (t : Bidi) → is_strong t ≡ false → is_strong (if b then On else t) ≡ false
unfolding is_strong
separated-weak true t h = refl
separated-weak false t h = h

terminated-weak : (b : Bool) (j : Bidi) → is_strong j ≡ false → is_strong (if b then En else j) ≡ false
unfolding is_strong
terminated-weak true j h = refl
terminated-weak false j h = h

joined-weak : (b : Bool) (last y : Bidi) → (b ≡ true → is_strong last ≡ false) → is_strong y ≡ false → is_strong (if b then last else y) ≡ false
joined-weak true last y h w = h refl
joined-weak false last y h w = w

-- W4 to W6 make no strong type
weak-through : (last beside y a a' : Bidi) → is_strong y ≡ false → is_strong (separated (terminated beside (joined last y a) a')) ≡ false
weak-through last beside y a a' w =
    let j = joined last y a in
    let t = terminated beside j a' in
    separated-weak (is t Es || is t Et || is t Cs) t
    (terminated-weak (is j Et && (is beside En || is a' En)) j
    (joined-weak (is_joined last y a) last y (λ e. number-weak last (joins-number last y a e)) w))

number-lettered : (b : Bool) → is_strong (let c = if b then An else En in if is c Al then R else c) ≡ false
unfolding is_strong
number-lettered true = refl
number-lettered false = refl

lettered-weak : (strong c : Bidi) → is_strong c ≡ false → is_strong (lettered strong c) ≡ false
unfolding is_strong
lettered-weak strong En h = number-lettered (is strong Al)
lettered-weak strong L h = h
lettered-weak strong R h = h
lettered-weak strong Al h = h
lettered-weak strong c h = refl

stays : (s7 strong u : Bidi) → is_strong u ≡ false → is s7 L ≡ is strong L → is (strong_behind s7 u) L ≡ is strong L
stays s7 strong u w h = ap (λ b. is (if b then u else s7) L) w ∙ h

-- W2 and W7 see L at the same places
strong-same : (s7 strong last beside a a' c : Bidi) → is s7 L ≡ is strong L
    → is (strong_behind s7 (separated (terminated beside (joined last (lettered strong c) a) a'))) L ≡ is (strong_behind strong c) L
unfolding is_strong
strong-same s7 strong last beside a a' L h =
    ap (λ b. is (strong_behind s7 (separated (terminated beside (if b then last else L) a'))) L) (and-false (is last a))
strong-same s7 strong last beside a a' R h =
    ap (λ b. is (strong_behind s7 (separated (terminated beside (if b then last else R) a'))) L) (and-false (is last a))
strong-same s7 strong last beside a a' Al h =
    ap (λ b. is (strong_behind s7 (separated (terminated beside (if b then last else R) a'))) L) (and-false (is last a))
strong-same s7 strong last beside a a' c h =
    stays s7 strong (separated (terminated beside (joined last (lettered strong c) a) a'))
    (weak-through last beside (lettered strong c) a a' (lettered-weak strong c refl)) h

both-passes : (base strong s7 last beside : Bidi) (xs : List Bidi) → is s7 L ≡ is strong L
    → numbers s7 last beside (letters base strong xs) ≡ weak_from base strong last beside xs
both-passes base strong s7 last beside [] h = refl
both-passes base strong s7 last beside (x ∷ xs) h =
    let c = marked base x in
    let b = unmarked base x in
    let s = strong_behind strong c in
    let y = lettered strong c in
    let next = lettered s (marked b (first_type xs)) in
    let after = lettered s (marked b (past_marks xs)) in
    let rest = letters b s xs in
    let j = joined last y next in
    let u = separated (terminated beside j after) in
    let past : is j Et ≡ true → past_terminators rest ≡ after =
    λ e. at-Et b (λ b. past_terminators (letters b s xs) ≡ lettered s (marked b (past_marks xs)))
    (unmarked-Et base x (lettered-Et strong c (joined-Et last y next e))) (past-letters s xs) in
    ap
    (λ n.
    let j = joined last y n in
    let u = separated (terminated beside j (past_terminators rest)) in
    settled s7 u ∷ numbers (strong_behind s7 u) y (unterminated beside j) rest)
    (first-letter b s xs)
    ∙ ap
    (λ t. settled s7 (separated t) ∷ numbers (strong_behind s7 (separated t)) y (unterminated beside j) rest)
    (ahead beside j (past_terminators rest) after past)
    ∙ ap (λ l. (if is u En && l then L else u) ∷ numbers (strong_behind s7 u) y (unterminated beside j) rest) h
    ∙ ap (λ r. settled strong u ∷ r)
    (both-passes b s (strong_behind s7 u) y (unterminated beside j) xs (strong-same s7 strong last beside next after c h))

pub weak_types-is : (sos : Bidi) (types : List Bidi) → weak_types sos types ≡ weak_from sos sos On On types
weak_types-is sos types =
    let after_w3 : w3 (w2 sos (w1 sos types)) ≡ letters sos sos types =
    ap (λ t. w3 (w2 sos t)) (w1-is sos types) ∙ ap w3 (w2-is sos (scan w1_at unmarked sos types)) ∙ letters-is sos sos types in
    let after_w7 = λ (ys : List Bidi).
    ap (λ t. w7 sos (w6 (w5 t))) (w4-is ys) ∙ ap (λ t. w7 sos (w6 t)) (w5-is (scan w4_at w4_step On ys))
    ∙ w7-is sos (w6 (scan w5_at unterminated On (scan w4_at w4_step On ys))) ∙ numbers-is sos On On ys in
    ap (λ t. w7 sos (w6 (w5 (w4 t)))) after_w3 ∙ after_w7 (letters sos sos types) ∙ both-passes sos sos sos On On types refl

-- one step of the pass in another list
pub weak-step : (base strong last beside b s y q z : Bidi) (types whole before : List Bidi) (i : ℕ) → i < length before → length types ≡ length before
    → weak_from base strong last beside (get_or before i L ∷ drop (i + 1) before) ≡ z ∷ weak_from b s y q (drop (i + 1) before)
    → take i types ++ weak_from base strong last beside (drop i before) ≡ whole
    → take (i + 1) (set types i z) ++ weak_from b s y q (drop (i + 1) before) ≡ whole
weak-step base strong last beside b s y q z types whole before i lt long step so_far =
    ap (λ t. t ++ weak_from b s y q (drop (i + 1) before)) (take_more_set types i z (omega arith))
    ∙ append_assoc (take i types) (z ∷ []) (weak_from b s y q (drop (i + 1) before))
    ∙ ap (λ t. take i types ++ t) (sym (ap (weak_from base strong last beside) (drop_more before i L lt) ∙ step))
    ∙ so_far

-- a strong type
pub strong-step : (base strong last beside x : Bidi) (xs : List Bidi) → is_strong x ≡ true
    → weak_from base strong last beside (x ∷ xs) ≡ lettered x x ∷ weak_from x x (lettered x x) (lettered x x) xs
unfolding is_strong
strong-step base strong last beside L xs h =
    ap (λ b. let j = if b then last else L in settled strong (separated (terminated beside j (lettered L (marked L (past_marks xs))))) ∷ weak_from L L L (unterminated beside j) xs)
    (and-false (is last (lettered L (marked L (first_type xs)))))
strong-step base strong last beside R xs h =
    ap (λ b. let j = if b then last else R in settled strong (separated (terminated beside j (lettered R (marked R (past_marks xs))))) ∷ weak_from R R R (unterminated beside j) xs)
    (and-false (is last (lettered R (marked R (first_type xs)))))
strong-step base strong last beside Al xs h =
    ap (λ b. let j = if b then last else R in settled strong (separated (terminated beside j (lettered Al (marked Al (past_marks xs))))) ∷ weak_from Al Al R (unterminated beside j) xs)
    (and-false (is last (lettered Al (marked Al (first_type xs)))))
strong-step base strong last beside x xs h = absurd (false≢true h)

-- a mark right behind a strong type
pub mark-step : (x : Bidi) (xs : List Bidi) → is_strong x ≡ true
    → weak_from x x (lettered x x) (lettered x x) (Nsm ∷ xs) ≡ lettered x x ∷ weak_from x x (lettered x x) (lettered x x) xs
unfolding is_strong is_isolate_control
mark-step L xs h =
    ap (λ b. let j = if b then L else L in settled L (separated (terminated L j (lettered L (marked L (past_marks xs))))) ∷ weak_from L L L (unterminated L j) xs)
    (and-false (is L (lettered L (marked L (first_type xs)))))
mark-step R xs h =
    ap (λ b. let j = if b then R else R in settled R (separated (terminated R j (lettered R (marked R (past_marks xs))))) ∷ weak_from R R R (unterminated R j) xs)
    (and-false (is R (lettered R (marked R (first_type xs)))))
mark-step Al xs h =
    ap (λ b. let j = if b then R else R in settled Al (separated (terminated R j (lettered Al (marked Al (past_marks xs))))) ∷ weak_from Al Al R (unterminated R j) xs)
    (and-false (is R (lettered Al (marked Al (first_type xs)))))
mark-step x xs h = absurd (false≢true h)

-- a type that is neither strong nor weak
pub neutral-step : (base strong last beside x : Bidi) (xs : List Bidi) → is_strong x ≡ false → is_weak x ≡ false
    → weak_from base strong last beside (x ∷ xs) ≡ x ∷ weak_from x strong x x xs
unfolding is_strong is_weak
neutral-step base strong last beside L xs h w = absurd (false≢true (sym h))
neutral-step base strong last beside R xs h w = absurd (false≢true (sym h))
neutral-step base strong last beside Al xs h w = absurd (false≢true (sym h))
neutral-step base strong last beside En xs h w = absurd (false≢true (sym w))
neutral-step base strong last beside Es xs h w = absurd (false≢true (sym w))
neutral-step base strong last beside Et xs h w = absurd (false≢true (sym w))
neutral-step base strong last beside Cs xs h w = absurd (false≢true (sym w))
neutral-step base strong last beside Nsm xs h w = absurd (false≢true (sym w))
neutral-step base strong last beside x xs h w =
    ap (λ b. let j = if b then last else x in settled strong (separated (terminated beside j (lettered strong (marked x (past_marks xs))))) ∷ weak_from x strong x (unterminated beside j) xs)
    (and-false (is last (lettered strong (marked x (first_type xs)))))

first-at : (xs : List Bidi) (i : ℕ) → first_type (drop i xs) ≡ get_or xs i On
first-at [] zero = refl
first-at [] (suc i) = refl
first-at (x ∷ xs) zero = refl
first-at (x ∷ xs) (suc i) = first-at xs i

-- any type, by what the code reads ahead
pub weak-read : (base strong last beside x m b s y n0 n1 n2 j e0 e1 e2 t z q : Bidi) (before : List Bidi) (i : ℕ)
    → m ≡ marked base x → b ≡ unmarked base x → s ≡ strong_behind strong m → y ≡ lettered strong m
    → n0 ≡ get_or before i On → n1 ≡ marked b n0 → n2 ≡ lettered s n1 → j ≡ joined last y n2
    → e0 ≡ past_marks (drop i before) → e1 ≡ marked b e0 → e2 ≡ lettered s e1 → t ≡ terminated beside j e2
    → z ≡ settled strong (separated t) → q ≡ unterminated beside j
    → weak_from base strong last beside (x ∷ drop i before) ≡ z ∷ weak_from b s y q (drop i before)
weak-read base strong last beside x m b s y n0 n1 n2 j e0 e1 e2 t z q before i em eb es ey en0 en1 en2 ej ee0 ee1 ee2 et ez eq =
    let xs = drop i before in
    let next : n0 ≡ first_type xs = en0 ∙ sym (first-at before i) in
    rw (ez, eq, et, ee2, ee1, ee0, ej, en2, en1, next, ey, es, eb, em) refl
