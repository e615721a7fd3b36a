-- One place more of the row.
use Rattle.std.proofs.Common.{arith, ℕ, ◌≡◌, ◌<◌, ◌≤◌, ◌+◌, ◌-◌, ◌∙◌, ap, sym, subst, List, [], ◌∷◌, ◌++◌, length, length-drop, get_or, set, map, take, drop, append_assoc, append-nil, Option}
use Rattle.std.specs.Prelude.{slice_range}
use Rattle.std.proofs.lemmas.List.{get_or-drop, length-set, map-append, take_more, take_more_set}
use Rattle.bg_types.specs.declared.class.Bidi.{Bidi}
use Rattle.bg_types.specs.declared.class.Bidi.TheVariants.{L}
use Rattle.bidi_explicit.specs.declared.kept.Kept.{Kept}
use Rattle.bidi_explicit.specs.declared.kind.Direction.{Direction}
use Rattle.bidi_explicit.specs.Levels.{kept_under}
use Rattle.bidi_explicit.proofs.places.put_under.Goals as goal

range-more : (cs : List Bidi) (start i : ℕ) → start ≤ i → i < length cs → slice_range cs start (i + 1) ≡ slice_range cs start i ++ get_or cs i L ∷ []
range-more cs start i order lt =
    let more : (i + 1) - start ≡ (i - start) + 1 = omega arith in
    let there : start + (i - start) ≡ i = omega arith in
    let left : i - start < length (drop start cs) = omega (arith, length-drop start cs) in
    ap (λ n. take n (drop start cs)) more ∙ take_more (drop start cs) (i - start) L left
    ∙ ap (λ c. take (i - start) (drop start cs) ++ c ∷ []) (get_or-drop start cs (i - start) L ∙ ap (λ n. get_or cs n L) there)

put-on : (old places : List (Option Kept)) (cs : List Bidi) (d : Direction) (start i : ℕ) (x : Option Kept) → start ≤ i → i < length cs → length places ≡ length cs
    → x ≡ kept_under d (get_or cs i L)
    → take i places ≡ take start old ++ map (kept_under d) (slice_range cs start i)
    → take (i + 1) (set places i x) ≡ take start old ++ map (kept_under d) (slice_range cs start (i + 1))
put-on old places cs d start i x order lt long is so_far =
    take_more_set places i x (omega arith) ∙ ap (λ t. t ++ x ∷ []) so_far
    ∙ append_assoc (take start old) (map (kept_under d) (slice_range cs start i)) (x ∷ [])
    ∙ ap (λ t. take start old ++ t)
    (ap (λ y. map (kept_under d) (slice_range cs start i) ++ y ∷ []) is
    ∙ sym (map-append (kept_under d) (slice_range cs start i) (get_or cs i L ∷ []))
    ∙ ap (map (kept_under d)) (sym (range-more cs start i order lt)))

none-yet : (cs : List Bidi) (d : Direction) (i : ℕ) (old : List (Option Kept)) → old ≡ old ++ map (kept_under d) (slice_range cs i i)
none-yet cs d i old =
    let none : 0 ≡ i - i = omega arith in
    sym (append-nil old) ∙ ap (λ n. old ++ map (kept_under d) (take n (drop i cs))) none

pub loop-i-init : goal.loop-i-init
loop-i-init c = record {
  long = c.requires.long;
  put = none-yet c.args.classes.now c.args.direction c.args.start (take c.args.start c.args.places.now);
}

pub loop-i-preserved : goal.loop-i-preserved
loop-i-preserved c =
    let h = c.loop-i.invariant in
    let order : c.args.start ≤ c.loop-i.i = omega arith in
    let lt : c.loop-i.i < length c.args.classes.now = omega (arith, c.simple_end-end.ensures.within) in
    record {
      long = length-set _ _ _ ∙ h.long;
      put = put-on c.args.places.now c.loop-i.places c.args.classes.now c.args.direction c.args.start c.loop-i.i c.kept_under.result order lt h.long c.kept_under.ensures h.put;
    }

pub returns : goal.returns
returns c =
    let e = c.simple_end-end.ensures in
    let at : c.loop-i.i ≡ c.simple_end-end.result = omega (arith, e.from) in
    record {
      from = e.from;
      within = e.within;
      simple = e.simple;
      places = subst (λ n. take n c.loop-i.places ≡ take c.args.start c.args.places.now ++ map (kept_under c.args.direction) (slice_range c.args.classes.now c.args.start n)) at c.loop-i.invariant.put;
    }
