-- A run is placed, each character behind the one before.
use Rattle.std.proofs.Common.{◌≡◌, ◌≤◌, ◌<◌, ◌+◌, ◌-◌, ◌^◌, ℕ, suc, Bool, true, false, cond, List, [], ◌∷◌, ◌++◌, length, Option, Some, refl, sym, ap, subst, ◌∙◌, is_some, arith}
use Rattle.std.specs.Prelude.{IfSome}
use Rattle.std.specs.FinMap as map
use Rattle.std.specs.declared.cmp.Ordering.TheVariants.{Less}
use Rattle.std.specs.Ordering.{nat_cmp, ordering_then}
use Rattle.std.specs.Cmp.{nat_cmp_is}
use Rattle.std.specs.Str.{chars}
use Rattle.std.proofs.lemmas.Str.{chars-nil}
use Rattle.bg_types.specs.Identifier.{Identifier, IsIdentifier, id_cmp, same_id}
use Rattle.bg_types.specs.WellFormed.{MayFollow}
use Rattle.bg_types.specs.OperationSet.{Node, OperationSet, with_operation}
use Rattle.bg_types.specs.declared.op.Place.{Place}
use Rattle.bg_types.specs.declared.op.Place.TheVariants.{After}
use Rattle.bg_types.specs.declared.op.OpView.TheVariants.{Insert}
use Rattle.bg_types.proofs.Interface.{id_cmp-total, same_id-is, same_id-itself}
use Rattle.rga_tree.specs.Tree.{stands_in}
use Rattle.rga_tree.specs.Run.{later, insertions, with_operations, AreNew}

-- ---- the identifiers of a run

pub later-more : (id : Identifier) (a b c : ℕ) → a + b ≡ c → later (later id a) b ≡ later id c
later-more id a b c h = let e : id.counter + a + b ≡ id.counter + c = omega (arith, h) in ap (λ n. record id { counter = n }) e

pub later-none : (id : Identifier) → later id 0 ≡ id
later-none id = let e : id.counter + 0 ≡ id.counter = omega arith in ap (λ n. record id { counter = n }) e

pub later-apart : (id : Identifier) (k : ℕ) → same_id (later id (suc k)) id ≡ false
later-apart id k = by_test (same_id (later id (suc k)) id) refl where
  by_test : (b : Bool) → same_id (later id (suc k)) id ≡ b → same_id (later id (suc k)) id ≡ false
  by_test true is = let same : id.counter + suc k ≡ id.counter = ap (λ (q : Identifier). q.counter) (same_id-is (later id (suc k)) id is) in absurd (omega (arith, same))
  by_test false is = is

pub later-less : (id : Identifier) → id_cmp id (later id 1) ≡ Less
later-less id = let up : id.counter < id.counter + 1 = omega arith in ap (λ o. ordering_then o (nat_cmp id.site id.site)) (sym (nat_cmp_is id.counter (id.counter + 1) Less up))

-- one that was made of a counter and a site
pub drawn : (o : Option Identifier) (id : Identifier) (counter site own : ℕ) → o ≡ Some id → IfSome o (λ q. q ≡ record { counter = counter; site = site }) → site ≡ own → id ≡ record { counter = counter; site = own }
drawn o id counter site own some is same = subst (λ z. IfSome z (λ q. q ≡ record { counter = counter; site = site })) some is ∙ (λ i. record { counter = counter; site = same i })

-- ---- one of them is placed

pub stands_behind : (t : OperationSet) (id : Identifier) (parent : Place) (ch : ℕ) → stands_in (with_operation t (Insert id parent ch)) (After id) ≡ true
stands_behind t id parent ch =
    let node : Node = record { parent = parent; ch = ch } in
    ap is_some (map.get-insert id_cmp-total t.ins id node id) ∙ ap (λ b. is_some (cond b (Some node) (map.get t.ins id))) (same_id-itself id)

pub new_behind : (t : OperationSet) (id : Identifier) (parent : Place) (ch n : ℕ) → AreNew t id (suc n) → AreNew (with_operation t (Insert id parent ch)) (later id 1) n
new_behind t id parent ch n new k less =
    let node : Node = record { parent = parent; ch = ch } in
    let q = later id (suc k) in
    ap (map.contains_key (map.insert t.ins id node)) (later-more id 1 k (suc k) (omega arith)) ∙ ap is_some (map.get-insert id_cmp-total t.ins id node q)
    ∙ ap (λ b. is_some (cond b (Some node) (map.get t.ins q))) (later-apart id k) ∙ new (suc k) (omega (arith, less))

-- ---- the rest of them

-- a sequence that had s and room for some placings has t, and room for those that are left. The rest of the characters is placed behind a
-- parent, the next one with this identifier
pub record IsUnderWay (s t : OperationSet) (first id : Identifier) (front parent : Place) (all rest : List ℕ) (some left : ℕ) : Type 0 where
  pub set_is : with_operations t (insertions id parent rest) ≡ with_operations s (insertions first front all)
  pub new : AreNew t id (length rest)
  pub follows : MayFollow parent id
  pub stands : stands_in t parent ≡ true
  pub counter_positive : 0 < id.counter
  pub site_positive : 0 < id.site
  pub site_fits : id.site < 2 ^ 16
  pub counters : id.counter + length rest ≤ 2 ^ 32
  pub room : left + length all ≡ some + length rest
  pub paid : length rest ≤ left

pub begun : (s : OperationSet) (first : Identifier) (front : Place) (all : List ℕ) (some : ℕ) → IsIdentifier first → AreNew s first (length all) → MayFollow front first → stands_in s front ≡ true
    → first.counter + length all ≤ 2 ^ 32 → length all ≤ some → IsUnderWay s s first first front front all all some some
begun s first front all some is new follows stands counters paid = record {
  set_is = refl;
  new = new;
  follows = follows;
  stands = stands;
  counter_positive = is.counter_positive;
  site_positive = is.site_positive;
  site_fits = is.site_fits;
  counters = counters;
  room = refl;
  paid = paid;
}

-- the next one is placed
pub under_way : (s t u : OperationSet) (first id : Identifier) (front parent : Place) (all rest : List ℕ) (ch some left fewer : ℕ) → IsUnderWay s t first id front parent all (ch ∷ rest) some left
    → u ≡ with_operation t (Insert id parent ch) → fewer + 1 ≡ left → IsUnderWay s u first (later id 1) front (After id) all rest some fewer
under_way s t u first id front parent all rest ch some left fewer now is room =
    let identifier : IsIdentifier id = record { counter_positive = now.counter_positive; counter_fits = omega (arith, now.counters); site_positive = now.site_positive; site_fits = now.site_fits } in
    record {
      set_is = ap (λ x. with_operations x (insertions (later id 1) (After id) rest)) is ∙ now.set_is;
      new = subst (λ (x : OperationSet). AreNew x (later id 1) (length rest)) (sym is) (new_behind t id parent ch (length rest) now.new);
      follows = (identifier, omega arith);
      stands = ap (λ (x : OperationSet). stands_in x (After id)) is ∙ stands_behind t id parent ch;
      counter_positive = omega (arith, now.counter_positive);
      site_positive = now.site_positive;
      site_fits = now.site_fits;
      counters = omega (arith, now.counters);
      room = omega (arith, now.room, room);
      paid = omega (arith, now.paid, room);
    }

-- what the one behind some of a run follows
abbrev pub parent_behind : Identifier → Place → List ℕ → Place
parent_behind id parent [] = parent
parent_behind id parent (ch ∷ chs) = After (later id (length chs))

pub one_further : (id : Identifier) (chs : List ℕ) → parent_behind (later id 1) (After id) chs ≡ After (later id (length chs))
one_further id [] = λ i. After (sym (later-none id) i)
one_further id (ch ∷ chs) = ap After (later-more id 1 (length chs) (suc (length chs)) (omega arith))

-- some of them are placed
pub some_under_way : (chs rest : List ℕ) (s t u : OperationSet) (first id : Identifier) (front parent : Place) (all : List ℕ) (some left fewer : ℕ) → IsUnderWay s t first id front parent all (chs ++ rest) some left
    → u ≡ with_operations t (insertions id parent chs) → fewer + length chs ≡ left → IsUnderWay s u first (later id (length chs)) front (parent_behind id parent chs) all rest some fewer
some_under_way [] rest s t u first id front parent all some left fewer now is room =
    let same : left ≡ fewer = omega (arith, room) in
    subst (λ n. IsUnderWay s u first (later id 0) front parent all rest some n) same
    (subst (λ (q : Identifier). IsUnderWay s u first q front parent all rest some left) (sym (later-none id)) (subst (λ (x : OperationSet). IsUnderWay s x first id front parent all rest some left) (sym is) now))
some_under_way (ch ∷ chs) rest s t u first id front parent all some left fewer now is room =
    let one = under_way s t (with_operation t (Insert id parent ch)) first id front parent all (chs ++ rest) ch some left (left - 1) now refl (omega (arith, room)) in
    let more = some_under_way chs rest s (with_operation t (Insert id parent ch)) u first (later id 1) front (After id) all some (left - 1) fewer one is (omega (arith, room)) in
    subst (λ (q : Identifier). IsUnderWay s u first q front (After (later id (length chs))) all rest some fewer) (later-more id 1 (length chs) (suc (length chs)) (omega arith))
    (subst (λ (p : Place). IsUnderWay s u first (later (later id 1) (length chs)) front p all rest some fewer) (one_further id chs) more)

-- its identifier is new
pub next_new : (t : OperationSet) (id : Identifier) (n : ℕ) → 0 < n → AreNew t id n → map.contains_key t.ins id ≡ false
next_new t id n some new = ap (map.contains_key t.ins) (sym (later-none id)) ∙ new 0 some

-- no bytes, no characters
pub nothing_left : (rest : List ℕ) → length rest ≡ 0 → chars rest ≡ []
nothing_left [] none = chars-nil
nothing_left (x ∷ rest) none = absurd (omega (arith, none))
