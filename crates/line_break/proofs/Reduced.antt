-- What no rule can tell: the first rule that holds is the same without it, and so is what stands before the next boundary.
use Rattle.std.proofs.Common.{◌≡◌, refl, [], ◌∷◌, Bool, true, false, not, ◌&&◌, if◌then◌else◌}
use Rattle.bg_types.specs.declared.class.Lb.{Lb}
use Rattle.bg_types.specs.declared.class.Lb.TheVariants.{Al, B2, Bk, Cl, Cp, Cr, Lf, Nl, Op, Qu, Sp, Zw, Zwj}
use Rattle.line_break.specs.declared.status.Break.TheVariants.{May}
use Rattle.line_break.specs.Classes.{one_of}
use Rattle.line_break.specs.Items.{Item, is_mark, takes_marks, as_base}
use Rattle.line_break.specs.Context.{Before, after}
use Rattle.line_break.specs.Rules.{first_rule, rules, point_rules, item_rules, late_rules, mandatory, explicit, joiners, enclosing, spaces, quotations, contingent, hyphens, ideographs, numbers, syllables, letters, parentheses, pairs}
use Rattle.line_break.specs.States.{reduced, reduced_point}
use Rattle.line_break.proofs.Contexts.{past, past_base}
use Rattle.bg_types.proofs.Interface.{two_cases}

-- SP stands for classes that no rule asks for
abbrev point_kept : Lb → Lb
point_kept x = if one_of (Bk ∷ Cr ∷ Lf ∷ Nl ∷ Zwj ∷ []) x then x else Sp

abbrev spaced_kept : Lb → Lb
spaced_kept x = if one_of (B2 ∷ Cl ∷ Cp ∷ Op ∷ Qu ∷ Zw ∷ []) x then x else Sp

point-told : (x : Lb)
    → (one_of (Bk ∷ []) (point_kept x) ≡ one_of (Bk ∷ []) x)
    × (one_of (Cr ∷ []) (point_kept x) ≡ one_of (Cr ∷ []) x)
    × (one_of (Cr ∷ Lf ∷ Nl ∷ []) (point_kept x) ≡ one_of (Cr ∷ Lf ∷ Nl ∷ []) x)
    × (one_of (Zwj ∷ []) (point_kept x) ≡ one_of (Zwj ∷ []) x)
unfolding one_of
point-told Bk = (refl, refl, refl, refl)
point-told _ = (refl, refl, refl, refl)

spaced-told : (x : Lb)
    → (one_of (Zw ∷ []) (spaced_kept x) ≡ one_of (Zw ∷ []) x)
    × (one_of (Op ∷ []) (spaced_kept x) ≡ one_of (Op ∷ []) x)
    × (one_of (Qu ∷ []) (spaced_kept x) ≡ one_of (Qu ∷ []) x)
    × (one_of (Cl ∷ Cp ∷ []) (spaced_kept x) ≡ one_of (Cl ∷ Cp ∷ []) x)
    × (one_of (B2 ∷ []) (spaced_kept x) ≡ one_of (B2 ∷ []) x)
unfolding one_of
spaced-told Zw = (refl, refl, refl, refl, refl)
spaced-told _ = (refl, refl, refl, refl, refl)

spaced-again : (x : Lb) → spaced_kept (spaced_kept x) ≡ spaced_kept x
unfolding one_of
spaced-again Zw = refl
spaced-again _ = refl

narrow-told : (x y : Bool) → (x && not (x && y)) ≡ (x && not y)
narrow-told true y = refl
narrow-told false y = refl

wide-again : (x y : Bool) → (x && (x && y)) ≡ (x && y)
wide-again true y = refl
wide-again false y = refl

wide-cp : (x : Lb) (w : Bool) → (one_of (Cp ∷ []) x && (one_of (Cp ∷ Op ∷ []) x && w)) ≡ (one_of (Cp ∷ []) x && w)
unfolding one_of
wide-cp Cp w = refl
wide-cp _ w = refl

-- the item that a code point begins is the same
after-item : (x : Lb) (v w : Bool) → (as_base (record { class = x; wide = v })).class ≡ (as_base (record { class = x; wide = w })).class
after-item x v w = two_cases (is_mark x) (λ m. rw m refl) (λ m. rw m refl)

after-narrow : (x : Lb) (w : Bool)
    → (one_of (Op ∷ []) (as_base (record { class = x; wide = w })).class && not (one_of (Cp ∷ Op ∷ []) x && w))
    ≡ (one_of (Op ∷ []) (as_base (record { class = x; wide = w })).class && not w)
unfolding one_of
after-narrow Op w = refl
after-narrow _ w = refl

-- the first rule that holds is the same
pub rule-reduced : (b : Before) (p : Item) → first_rule rules May (reduced b) (after (reduced_point p)) ≡ first_rule rules May b (after p)
unfolding reduced first_rule rules point_rules item_rules late_rules mandatory explicit joiners enclosing spaces quotations contingent hyphens ideographs numbers syllables letters parentheses pairs
rule-reduced b p =
    let point = point-told b.point in
    let spaced = spaced-told b.spaced in
    let item = after-item p.class (one_of (Cp ∷ Op ∷ []) p.class && p.wide) p.wide in
    rw (item, after-narrow p.class p.wide, point.0, point.1, point.2, point.3, spaced.0, spaced.1, spaced.2, spaced.3, spaced.4, narrow-told (one_of (Cp ∷ []) b.item) b.wide) (refl {a = first_rule rules May b (after p)})

-- so is what stands before the next boundary
base-reduced : (b : Before) (point x : Lb) (v w : Bool) → (one_of (Cp ∷ []) x && v) ≡ (one_of (Cp ∷ []) x && w)
    → reduced (past_base (reduced b) point (record { class = x; wide = v })) ≡ reduced (past_base b point (record { class = x; wide = w }))
unfolding reduced
base-reduced b point x v w e =
    two_cases (one_of (Sp ∷ []) x) (λ s. rw (s, e, spaced-again b.spaced) refl) (λ s. rw (s, e) refl)

wide-al : (v w : Bool) → (one_of (Cp ∷ []) Al && v) ≡ (one_of (Cp ∷ []) Al && w)
unfolding one_of
wide-al v w = refl

pub past-reduced : (b : Before) (p : Item) → reduced (past (reduced b) (reduced_point p)) ≡ reduced (past b p)
unfolding reduced
past-reduced b p =
    two_cases (is_mark p.class && takes_marks b.item)
    (λ t. rw (t, wide-again (one_of (Cp ∷ []) b.item) b.wide, spaced-again b.spaced) refl)
    (λ n. two_cases (is_mark p.class)
    (λ m. rw (n, m) (base-reduced b p.class Al (one_of (Cp ∷ Op ∷ []) p.class && p.wide) p.wide (wide-al _ _)))
    (λ m. rw (n, m) (base-reduced b p.class p.class (one_of (Cp ∷ Op ∷ []) p.class && p.wide) p.wide (wide-cp p.class p.wide))))
