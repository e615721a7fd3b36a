-- Runs in front of a list, and operations that are taken in order.
use Rattle.std.proofs.Common.{◌≡◌, ◌⊎◌, inl, inr, ◌≤◌, ◌<◌, ◌+◌, ◌-◌, ◌*◌, ◌^◌, ℕ, zero, suc, List, [], ◌∷◌, ◌++◌, length, take, drop, get_or, Some, refl, sym, ap, subst, ◌∙◌, length-append, arith}
use Rattle.std.specs.Prelude.{All, slice_get, encode_utf8}
use Rattle.std.specs.List.{AllByRecursion}
use Rattle.std.specs.Str.{chars, IsUtf8}
use Rattle.std.proofs.lemmas.Bool.{cases_lt}
use Rattle.std.proofs.lemmas.List.{append-nil, length-drop, take-take}
use Rattle.std.proofs.lemmas.List.Elements.{All-nil, All-cons, All-append, recursion_from_All}
use Rattle.std.proofs.lemmas.Option.{slice_get_past}
use Rattle.std.proofs.lemmas.Str.{chars-append, chars-nil, chars_past_char, IsUtf8-append, IsUtf8-nil}
use Rattle.std.proofs.Math.Seq.{take-add}
use Rattle.bg_types.specs.Identifier.{Identifier}
use Rattle.bg_types.specs.WellFormed.{IsWellFormed}
use Rattle.bg_types.specs.OperationSet.{OperationSet, with_operation, next, size}
use Rattle.bg_types.specs.declared.op.Place.{Place}
use Rattle.bg_types.specs.declared.op.Place.TheVariants.{Root, After}
use Rattle.bg_types.specs.declared.op.OpView.{OpView}
use Rattle.bg_types.specs.declared.op.OpView.TheVariants.{Insert}
use Rattle.rga_tree.specs.Run.{later, insertions}
use Rattle.rga_tree.proofs.Interface.{later-more, later-none, parent_behind, one_further}
use Rattle.pending_ops.specs.Waiting.{Waiting}
use Rattle.desk_replica.specs.Desk.{Desk}
use Rattle.desk_replica.specs.Placement.{IsSettled, IsCounted, IsDesk, IsPaid, whole}
use Rattle.desk_replica.specs.Merging.{with_operations}
use Rattle.desk_replica.specs.Reply.{IsRefusal}
use Rattle.desk_replica.specs.Taking.{AreAccepted, AreTaken, IsRefusedNext, IsRunInFront}
use Rattle.desk_replica.specs.declared.answer.TakeFault.{TakeFault}
use Rattle.desk_replica.specs.declared.answer.TakeFault.TheVariants.{IdentifierReused, Full, Memory}
use Rattle.desk_replica.proofs.Admitting.{IsContent}
use Rattle.desk_replica.proofs.Counters.{newest-is_new}
use Rattle.desk_replica.proofs.Desks.{desk_of}
use Rattle.desk_replica.proofs.InTurn.{take_push}
use Rattle.desk_replica.proofs.Lists.{slice_get-take}
use Rattle.desk_replica.proofs.Replacing.{with_operations-append}
use Rattle.desk_replica.proofs.Stretches.{IsPlacedAll, next_typed, size_typed, typed_whole, typed_size, typed_next}

-- ---- one more of a run

insertions-push : (id : Identifier) (parent : Place) (chs : List ℕ) (ch : ℕ) → insertions id parent (chs ++ ch ∷ []) ≡ insertions id parent chs ++ Insert (later id (length chs)) (parent_behind id parent chs) ch ∷ []
insertions-push id parent [] ch = ap (λ (q : Identifier). Insert q parent ch ∷ []) (sym (later-none id))
insertions-push id parent (x ∷ chs) ch =
    ap (λ l. Insert id parent x ∷ l) (insertions-push (later id 1) (After id) chs ch)
    ∙ (λ i. Insert id parent x ∷ insertions (later id 1) (After id) chs ++ Insert (later-more id 1 (length chs) (suc (length chs)) (omega arith) i) (one_further id chs i) ch ∷ [])

behind-push : (id : Identifier) (parent : Place) (chs : List ℕ) (ch : ℕ) → parent_behind id parent (chs ++ ch ∷ []) ≡ After (later id (length chs))
behind-push id parent [] ch = refl
behind-push id parent (x ∷ chs) ch = let more : length (chs ++ ch ∷ []) ≡ suc (length chs) = omega (arith, length-append chs (ch ∷ [])) in ap (λ n. After (later id n)) more

one_char : (ch : ℕ) → IsUtf8 (encode_utf8 ch) → chars (encode_utf8 ch) ≡ ch ∷ []
one_char ch utf8 = chars_past_char (encode_utf8 ch) [] ch utf8 (sym (append-nil (encode_utf8 ch))) ∙ ap (λ l. ch ∷ l) chars-nil

-- the characters of the first operations of a list stand in front, and those operations are a run; behind it comes what has the counter after
-- this one, and this parent
pub record IsGathered (first : Identifier) (front : Place) (ops : List OpView) (bytes : List ℕ) (count end counter : ℕ) (parent : Place) : Type 0 where
  pub utf8 : IsUtf8 (take end bytes)
  pub run : take count ops ≡ insertions first front (chars (take end bytes))
  pub many : length (chars (take end bytes)) ≡ count
  pub most : end ≤ 4 * count
  pub counter_is : counter + 1 ≡ first.counter + count
  pub parent_is : parent ≡ parent_behind first front (chars (take end bytes))
  pub well_formed : All IsWellFormed (take count ops)

pub gathered_none : (first : Identifier) (front : Place) (ops : List OpView) (bytes : List ℕ) (counter : ℕ) → counter + 1 ≡ first.counter → IsGathered first front ops bytes 0 0 counter front
gathered_none first front ops bytes counter is = record {
  utf8 = IsUtf8-nil;
  run = sym (ap (insertions first front) chars-nil);
  many = ap (λ (l : List ℕ). length l) chars-nil;
  most = omega arith;
  counter_is = omega (arith, is);
  parent_is = sym (ap (parent_behind first front) chars-nil);
  well_formed = All-nil IsWellFormed;
}

pub gathered_more : (first id : Identifier) (front parent : Place) (ops : List OpView) (op : OpView) (bytes more : List ℕ) (count end last counter ch : ℕ) → IsGathered first front ops bytes count end counter parent
    → count < length ops → op ≡ get_or ops count op → id ≡ record { counter = counter + 1; site = first.site } → op ≡ Insert id parent ch → IsWellFormed op
    → last ≤ end + 4 → take last more ≡ take end bytes ++ encode_utf8 ch → IsUtf8 (encode_utf8 ch) → IsGathered first front ops more (count + 1) last id.counter (After id)
gathered_more first id front parent ops op bytes more count end last counter ch now within at id_is op_is formed most put utf8 =
    let old = chars (take end bytes) in
    let read : chars (take last more) ≡ old ++ ch ∷ [] = ap chars put ∙ chars-append (take end bytes) (encode_utf8 ch) now.utf8 ∙ ap (λ l. old ++ l) (one_char ch utf8) in
    let here : id ≡ later first (length old) =
    id_is ∙ (let e : counter + 1 ≡ first.counter + length old = omega (arith, now.counter_is, now.many) in ap (λ n. record first { counter = n }) e) in
    let own : op ≡ Insert (later first (length old)) (parent_behind first front old) ch = op_is ∙ (λ i. Insert (here i) (now.parent_is i) ch) in
    record {
      utf8 = subst IsUtf8 (sym put) (IsUtf8-append (take end bytes) (encode_utf8 ch) now.utf8 utf8);
      run = take_push ops count op within at ∙ (λ i. now.run i ++ own i ∷ []) ∙ sym (insertions-push first front old ch) ∙ ap (insertions first front) (sym read);
      many = let long = ap (λ (l : List ℕ). length l) read in omega (arith, long, length-append old (ch ∷ []), now.many);
      most = omega (arith, most, now.most);
      counter_is = let same = ap (λ (q : Identifier). q.counter) id_is in omega (arith, same, now.counter_is);
      parent_is = ap After here ∙ sym (behind-push first front old ch) ∙ ap (parent_behind first front) (sym read);
      well_formed = subst (All IsWellFormed) (sym (take_push ops count op within at)) (All-append IsWellFormed (take count ops) (op ∷ []) now.well_formed (All-cons IsWellFormed op [] formed (All-nil IsWellFormed)));
    }

-- ---- a run is taken

-- nothing is in front
pub nothing_in_front : (t : OperationSet) (greatest : ℕ) (ops : List OpView) → IsRunInFront t greatest ops 0
nothing_in_front t greatest ops = record {
  first = record { counter = greatest + 1; site = 1 };
  parent = Root;
  characters = [];
  many = refl;
  typed = refl;
  next = refl;
  stands = refl;
  well_formed = All-nil IsWellFormed;
}

last_fits : (chs : List ℕ) (id : Identifier) (parent : Place) → 0 < length chs → AllByRecursion IsWellFormed (insertions id parent chs) → id.counter + length chs ≤ 2 ^ 32
last_fits [] id parent some formed = absurd (omega (arith, some))
last_fits (ch ∷ []) id parent some formed = let fits = formed.0.0.counter_fits in omega (arith, fits)
last_fits (ch ∷ x ∷ chs) id parent some formed = let rest = last_fits (x ∷ chs) (later id 1) (After id) (omega arith) formed.1 in omega (arith, rest)

pub counters_fit : (t : OperationSet) (greatest : ℕ) (ops : List OpView) (count : ℕ) → greatest < 2 ^ 32 → IsRunInFront t greatest ops count → greatest + count < 2 ^ 32
counters_fit t greatest ops count fits run = elim (cases_lt 0 count) [
  | inl some ↦
      let all = last_fits run.characters run.first run.parent (omega (arith, some, run.many)) (subst (AllByRecursion IsWellFormed) run.typed (recursion_from_All IsWellFormed (take count ops) run.well_formed)) in
      omega (arith, all, run.many, run.next)
  | inr none ↦ omega (arith, none, fits)
]

never_refused : (s : OperationSet) (id : Identifier) (parent : Place) (ch : ℕ) (fault : TakeFault) → next s ≤ id.counter → size s < 1_000_000 → ¬ (IsRefusal s (Insert id parent ch) fault)
never_refused s id parent ch IdentifierReused above room refused = refused.2 ((newest-is_new s (Insert id parent ch) above).0 refused.0 refused.1)
never_refused s id parent ch Full above room refused = absurd (omega (arith, room, refused.2))
never_refused s id parent ch Memory above room refused = refused

run_accepted : (chs : List ℕ) (s : OperationSet) (id : Identifier) (parent : Place) → id.counter ≡ next s → AllByRecursion IsWellFormed (insertions id parent chs) → size s + length chs ≤ 1_000_000
    → AreAccepted s (insertions id parent chs) (length chs)
run_accepted [] s id parent is formed few k op fault less at = absurd (omega (arith, less))
run_accepted (ch ∷ chs) s id parent is formed few zero op fault less at =
    let same : Insert id parent ch ≡ op = cc in
    λ refused. never_refused s id parent ch fault (omega (arith, is)) (omega (arith, few)) (subst (λ (o : OpView). IsRefusal s o fault) (sym same) refused)
run_accepted (ch ∷ chs) s id parent is formed few (suc k) op fault less at =
    let counter = next_typed s id is parent ch formed.0.1 in
    let many = size_typed s id is parent ch in
    run_accepted chs (with_operation s (Insert id parent ch)) (later id 1) (After id) (omega (arith, is, counter)) formed.1 (omega (arith, few, many)) k op fault (omega (arith, less)) at

-- the first operations of a list are accepted as they are where they stand alone
accepted_front : (s : OperationSet) (ops : List OpView) (n : ℕ) → AreAccepted s (take n ops) n → AreAccepted s ops n
accepted_front s ops n accepted k op fault less at refused =
    accepted k op fault less (slice_get-take ops n k less ∙ at) (subst (λ l. IsRefusal (with_operations s l) op fault) (sym (take-take k n ops (omega (arith, less)))) refused)

module _ (t : OperationSet) (w : Waiting) (kept greatest count : ℕ) (ops : List OpView) (content : IsContent t) (settled : IsSettled t w) (counted : IsCounted (whole t w) kept greatest)
    (run : IsRunInFront t greatest ops count) (few : kept + count ≤ 1_000_000) where
  abbrev made : List OpView
  made = insertions run.first run.parent run.characters

  formed : AllByRecursion IsWellFormed made
  formed = subst (AllByRecursion IsWellFormed) run.typed (recursion_from_All IsWellFormed (take count ops) run.well_formed)

  counter : run.first.counter ≡ next (whole t w)
  counter = omega (arith, run.next, counted.next_is)

  all_placed : IsPlacedAll t w made
  all_placed = typed_whole run.characters t w run.first run.parent content settled counter run.stands formed

  pub run_settled : IsSettled (with_operations t (take count ops)) w
  run_settled = subst (λ l. IsSettled (with_operations t l) w) (sym run.typed) all_placed.settled

  pub run_whole : whole (with_operations t (take count ops)) w ≡ with_operations (whole t w) (take count ops)
  run_whole = ap (λ l. whole (with_operations t l) w) run.typed ∙ all_placed.whole_is ∙ ap (with_operations (whole t w)) (sym run.typed)

  pub run_counted : IsCounted (with_operations (whole t w) (take count ops)) (kept + count) (greatest + count)
  run_counted =
      let many = typed_size run.characters (whole t w) run.first run.parent counter formed in
      let last = typed_next run.characters (whole t w) run.first run.parent counter formed in
      subst (λ l. IsCounted (with_operations (whole t w) l) (kept + count) (greatest + count)) (sym run.typed)
      (record { kept_is = omega (arith, many, counted.kept_is, run.many); limited = few; next_is = omega (arith, last, counted.next_is, run.many) })

  pub run_is_accepted : AreAccepted (whole t w) ops count
  run_is_accepted =
      accepted_front (whole t w) ops count
      (subst (λ n. AreAccepted (whole t w) (take count ops) n) run.many
      (subst (λ l. AreAccepted (whole t w) l (length run.characters)) (sym run.typed)
      (run_accepted run.characters (whole t w) run.first run.parent counter formed (omega (arith, few, counted.kept_is, run.many)))))

  pub run_taken : (u : OperationSet) (site spare : ℕ) (desk : Desk) → count ≤ length ops → u ≡ with_operations t (take count ops) → desk_of t w site spare ≡ desk → AreTaken desk ops count (desk_of u w site (spare - count))
  run_taken u site spare desk within is view =
      let set_is = ap (λ x. whole x w) is ∙ run_whole in
      let many = ap size set_is in
      let after = run_counted in
      subst (λ (d : Desk). AreTaken d ops count (desk_of u w site (spare - count))) view (record {
        within = within;
        set = set_is;
        accepted = run_is_accepted;
        site = refl;
        spare = omega (arith, many, after.kept_is, counted.kept_is);
        none = λ nothing. (let same : u ≡ t = is ∙ ap (λ n. with_operations t (take n ops)) nothing in let kept_spare : spare - count ≡ spare = omega (arith, nothing) in λ i. desk_of (same i) w site (kept_spare i));
      })

  pub run_desk : (u : OperationSet) (placings site left : ℕ) → u ≡ with_operations t (take count ops) → 0 < site → IsPaid placings w left → IsDesk u placings w site (kept + count) (greatest + count) left
  run_desk u placings site left is sited paid = record {
    settled = subst (λ x. IsSettled x w) (sym is) run_settled;
    counted = subst (λ s. IsCounted s (kept + count) (greatest + count)) (sym (ap (λ x. whole x w) is ∙ run_whole)) run_counted;
    sited = sited;
    paid = paid;
  }

-- what is a run in front of the first operations of a list is one in front of the list
pub run_of_all : (t : OperationSet) (greatest : ℕ) (ops : List OpView) (most count : ℕ) → count ≤ most → IsRunInFront t greatest (take most ops) count → IsRunInFront t greatest ops count
run_of_all t greatest ops most count le run =
    let same : take count (take most ops) ≡ take count ops = take-take count most ops le in
    record {
      first = run.first;
      parent = run.parent;
      characters = run.characters;
      many = run.many;
      typed = sym same ∙ run.typed;
      next = run.next;
      stands = run.stands;
      well_formed = subst (All IsWellFormed) same run.well_formed;
    }

-- ---- first some, and then some more

slice_get-drop : {X : Type 0} (xs : List X) (a k : ℕ) → slice_get (drop a xs) k ≡ slice_get xs (a + k)
slice_get-drop xs zero k = ap (slice_get xs) (omega arith)
slice_get-drop [] (suc a) k = slice_get_past [] k (omega arith) ∙ sym (slice_get_past [] (suc a + k) (omega arith))
slice_get-drop (x ∷ xs) (suc a) k = let e : suc (a + k) ≡ suc a + k = omega arith in slice_get-drop xs a k ∙ ap (slice_get (x ∷ xs)) e

set_behind : (s now : OperationSet) (ops : List OpView) (a b : ℕ) → now ≡ with_operations s (take a ops) → with_operations now (take b (drop a ops)) ≡ with_operations s (take (a + b) ops)
set_behind s now ops a b is =
    ap (λ x. with_operations x (take b (drop a ops))) is ∙ sym (with_operations-append (take a ops) (take b (drop a ops)) s) ∙ ap (with_operations s) (sym (take-add a b ops))

accepted_behind : (s now : OperationSet) (ops : List OpView) (a b : ℕ) → now ≡ with_operations s (take a ops) → AreAccepted s ops a → AreAccepted now (drop a ops) b
    → (k : ℕ) (op : OpView) (fault : TakeFault) → k < a + b → (k < a) ⊎ (a ≤ k) → slice_get ops k ≡ Some op → ¬ (IsRefusal (with_operations s (take k ops)) op fault)
accepted_behind s now ops a b is before more k op fault less (inl first) at refused = before k op fault first at refused
accepted_behind s now ops a b is before more k op fault less (inr later_on) at refused =
    let there : a + (k - a) ≡ k = omega (arith, later_on) in
    more (k - a) op fault (omega (arith, less, later_on)) (slice_get-drop ops a (k - a) ∙ ap (slice_get ops) there ∙ at)
    (subst (λ (x : OperationSet). IsRefusal x op fault) (ap (λ n. with_operations s (take n ops)) (sym there) ∙ sym (set_behind s now ops a (k - a) is)) refused)

pub taken_behind : (old now new : Desk) (ops : List OpView) (a b : ℕ) → AreTaken old ops a now → AreTaken now (drop a ops) b new → AreTaken old ops (a + b) new
taken_behind old now new ops a b before more = record {
  within = let w = more.within in omega (arith, w, before.within, length-drop a ops);
  set = more.set ∙ set_behind old.set now.set ops a b before.set;
  accepted = λ k op fault less at. accepted_behind old.set now.set ops a b before.set before.accepted more.accepted k op fault less (cases_lt k a) at;
  site = more.site ∙ before.site;
  spare = omega (arith, before.spare, more.spare);
  none = λ nothing. more.none (omega (arith, nothing)) ∙ before.none (omega (arith, nothing));
}

-- one is refused behind those that are taken
pub refused_behind : (desk : Desk) (ops : List OpView) (a : ℕ) (fault : TakeFault) → IsRefusedNext desk (drop a ops) 0 fault → IsRefusedNext desk ops a fault
refused_behind desk ops a fault stop = record {
  op = stop.op;
  next = let e : a + 0 ≡ a = omega arith in ap (slice_get ops) (sym e) ∙ sym (slice_get-drop ops a 0) ∙ stop.next;
  refused = stop.refused;
  unpaid = stop.unpaid;
}
