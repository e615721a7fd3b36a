-- What stands before a boundary, one code point further.
use Rattle.std.proofs.Common.{◌≡◌, refl, ap, sym, ◌∙◌, List, [], ◌∷◌, ◌++◌, true, false, not, ◌&&◌, fold, if◌then◌else◌}
use Rattle.std.proofs.lemmas.Bool.{and_parts}
use Rattle.bg_types.specs.declared.class.Lb.{Lb}
use Rattle.bg_types.specs.declared.class.Lb.TheVariants.{Ba, Hl, Hy, Ri, Sp}
use Rattle.line_break.specs.Classes.{one_of}
use Rattle.line_break.specs.Items.{Item, is_mark, takes_marks, as_base, with_point, items}
use Rattle.line_break.specs.Context.{Before, class_of, last_point, before_by, before}
use Rattle.bg_types.proofs.Interface.{two_cases}

-- a code point that begins this item
abbrev pub past_base : Before → Lb → Item → Before
past_base b point base = record {
  point = point;
  item = base.class;
  wide = base.wide;
  spaced = if one_of (Sp ∷ []) base.class then b.spaced else base.class;
  odd_regional = if one_of (Ri ∷ []) base.class then not b.odd_regional else false;
  hebrew_hyphen = one_of (Hy ∷ Ba ∷ []) base.class && one_of (Hl ∷ []) b.item;
}

-- what stands before the next boundary, with this code point between
abbrev pub past : Before → Item → Before
past b p = if is_mark p.class && takes_marks b.item then record b { point = p.class } else past_base b p.class (as_base p)

fold-push : {A B : Type 0} (f : A → B → A) (a : A) (xs : List B) (x : B) → fold f a (xs ++ x ∷ []) ≡ f (fold f a xs) x
fold-push f a [] x = refl
fold-push f a (y ∷ xs) x = fold-push f (f a y) xs x

before-push : (front : List Item) (p : Item) → before (front ++ p ∷ []) ≡ before_by p.class (with_point (items front) p)
unfolding before items
before-push front p =
    ap (λ l. before_by (class_of l) (items (front ++ p ∷ []))) (fold-push (λ _ q. q ∷ []) [] front p)
    ∙ ap (before_by p.class) (fold-push with_point [] front p)

takes_marks-sp : takes_marks Sp ≡ false
unfolding one_of
takes_marks-sp = refl

-- a mark that belongs to the item before it changes no item
with_point-mark : (its : List Item) (p : Item) → (is_mark p.class && takes_marks (class_of its)) ≡ true → with_point its p ≡ its
with_point-mark [] p h = absurd (let t = sym takes_marks-sp ∙ (and_parts (is_mark p.class) (takes_marks Sp) h).1 in cc)
with_point-mark (i ∷ its) p h = let both = and_parts (is_mark p.class) (takes_marks i.class) h in rw both.0 (rw both.1 refl)

-- another code point begins one
with_point-base : (its : List Item) (p : Item) → (is_mark p.class && takes_marks (class_of its)) ≡ false → with_point its p ≡ as_base p ∷ its
with_point-base [] p n = two_cases (is_mark p.class) (λ m. rw m refl) (λ m. rw m refl)
with_point-base (i ∷ its) p n =
    two_cases (is_mark p.class)
    (λ m. let t : takes_marks i.class ≡ false = sym (ap (λ b. b && takes_marks i.class) m) ∙ n in rw m (rw t refl))
    (λ m. rw m refl)

base-past : (before_point point : Lb) (its : List Item) (i : Item) → before_by point (i ∷ its) ≡ past_base (before_by before_point its) point i
base-past before_point point its i = two_cases (one_of (Sp ∷ []) i.class) (λ s. rw s refl) (λ s. rw s refl)

by-past : (point : Lb) (its : List Item) (p : Item) → before_by p.class (with_point its p) ≡ past (before_by point its) p
by-past point its p =
    two_cases (is_mark p.class && takes_marks (class_of its))
    (λ t. ap (before_by p.class) (with_point-mark its p t) ∙ rw t refl)
    (λ n. ap (before_by p.class) (with_point-base its p n) ∙ base-past point p.class its (as_base p) ∙ rw n refl)

pub before-past : (front : List Item) (p : Item) → before (front ++ p ∷ []) ≡ past (before front) p
unfolding before
before-past front p = before-push front p ∙ by-past (class_of (last_point front)) (items front) p
