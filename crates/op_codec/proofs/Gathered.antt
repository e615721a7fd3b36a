-- Operations gathered into frames: no frame could go on with the one before, and no other such frames stand
-- for these operations.
use Rattle.std.proofs.Common.{◌≡◌, ℕ, ◌+◌, ◌<◌, ◌≤◌, ◌^◌, true, false, eqb, ltb, Bool, cond, List, [], ◌∷◌, ◌++◌, length, Option, Some, None, refl, sym, ap, ◌∙◌, append_assoc, arith}
use Rattle.std.specs.Prelude.{◌&&◌}
use Rattle.std.specs.List.{flat_map, AllByRecursion}
use Rattle.std.specs.Char.{IsScalar}
use Rattle.std.proofs.lemmas.Bool.{and_parts, eqb-true, eq-eqb, ltb-true, lt-ltb}
use Rattle.std.proofs.lemmas.List.{append-nil, length-append}
use Rattle.std.proofs.lemmas.List.Concat.{flat_map-cons}
use Rattle.bg_types.specs.Identifier.{Identifier, IsIdentifier}
use Rattle.bg_types.specs.WellFormed.{IsWellFormed}
use Rattle.bg_types.specs.declared.op.Place.{Place}
use Rattle.bg_types.specs.declared.op.Place.TheVariants.{Root, After}
use Rattle.bg_types.specs.declared.op.OpView.{OpView}
use Rattle.bg_types.specs.declared.op.OpView.TheVariants.{Insert, Erase}
use Rattle.op_codec.specs.Spelling.{Frame, header, frame, spelling, spelling_in, frame_bytes, next_of, followers, further_ops, frame_ops, last_id, parent_identifier, joins, tip, grown, gathered, frames_of, last_tip, tip_of}
use Rattle.op_codec.specs.declared.position.Version.TheVariants.{One}
use Rattle.op_codec.specs.Frames.{MayGoOn, IsFrame, AreFrames}

abbrev pub alone : OpView → Frame
alone op = record { first = op; further = [] }

-- ---- one more insertion

pub same_id : (a b : Identifier) → a.counter ≡ b.counter → a.site ≡ b.site → a ≡ b
same_id a b counter site = λ i. record { counter = counter i; site = site i }

parent_is : (p : Place) (b : Identifier) → 0 < b.counter → (parent_identifier p).counter ≡ b.counter → (parent_identifier p).site ≡ b.site → p ≡ After b
parent_is Root b some counter site = absurd (omega (arith, some, counter))
parent_is (After a) b some counter site = ap After (same_id a b counter site)

-- what joins an insertion is the next one of a run
pub joined_is : (b id : Identifier) (p : Place) (c : ℕ) → 0 < b.counter → joins (Some b) (Insert id p c) ≡ true → Insert id p c ≡ Insert (next_of b) (After b) c
joined_is b id p c some e =
    let parent = parent_identifier p in
    let last = and_parts (eqb parent.counter b.counter && eqb parent.site b.site && eqb id.site b.site) (eqb id.counter (b.counter + 1)) e in
    let third = and_parts (eqb parent.counter b.counter && eqb parent.site b.site) (eqb id.site b.site) last.0 in
    let both = and_parts (eqb parent.counter b.counter) (eqb parent.site b.site) third.0 in
    let place = parent_is p b some (eqb-true _ _ both.0) (eqb-true _ _ both.1) in
    let is = same_id id (next_of b) (eqb-true _ _ last.1) (eqb-true _ _ third.1) in
    λ i. Insert (is i) (place i) c

eqb-same : (n : ℕ) → eqb n n ≡ true
eqb-same n = eq-eqb n n refl

next_joins : (b : Identifier) (c : ℕ) → joins (Some b) (Insert (next_of b) (After b) c) ≡ true
next_joins b c = rw (eqb-same b.counter, eqb-same b.site, eqb-same (b.counter + 1)) refl

followers-more : (id b : Identifier) (chars : List ℕ) (c : ℕ) → b.counter ≡ id.counter + length chars → b.site ≡ id.site
    → followers id (chars ++ c ∷ []) ≡ followers id chars ++ Insert (next_of b) (After b) c ∷ []
followers-more id b [] c counter site = let same : id ≡ b = same_id id b (omega (arith, counter)) (sym site) in ap (λ (x : Identifier). Insert (next_of x) (After x) c ∷ []) same
followers-more id b (d ∷ chars) c counter site =
    ap (λ (s : List OpView). Insert (next_of id) (After id) d ∷ s) (followers-more (next_of id) b chars c (omega (arith, counter)) site)

-- a frame with room, and what joins it
pub record Grows (most : ℕ) (f : Frame) (op : OpView) : Type 0 where
  pub is_frame : IsFrame most (grown f op)
  pub first : (grown f op).first ≡ f.first
  pub ops : frame_ops (grown f op) ≡ frame_ops f ++ op ∷ []

scalars-more : (chars : List ℕ) (c : ℕ) → AllByRecursion IsScalar chars → IsScalar c → AllByRecursion IsScalar (chars ++ c ∷ [])
scalars-more [] c all one = (one, tt)
scalars-more (x ∷ chars) c all one = (all.0, scalars-more chars c all.1 one)

pub may_go_on : (id : Identifier) (p : Place) (c : ℕ) (chars : List ℕ) → id.counter + length chars < 2 ^ 32 → MayGoOn (Insert id p c) chars
may_go_on id p c [] small = tt
may_go_on id p c (d ∷ chars) small = small

tip_room : (most : ℕ) (f : Frame) (op : OpView) (room : Bool) → ltb (length f.further + 1) most ≡ room → joins (cond room (last_id f.first f.further) None) op ≡ true
    → (length f.further + 1 < most) × (joins (last_id f.first f.further) op ≡ true)
tip_room most f op true e joined = (ltb-true _ _ e, joined)
tip_room most f op false e joined = absurd cc

grows_last : (most : ℕ) (first : OpView) (further : List ℕ) (op : OpView) → IsFrame most (record { first = first; further = further }) → length further + 1 < most → joins (last_id first further) op ≡ true → IsWellFormed op
    → Grows most (record { first = first; further = further }) op
grows_last most (Erase t) further op is room joined ok = absurd cc
grows_last most (Insert i p c) further (Erase t) is room joined ok = absurd cc
grows_last most (Insert i p c) further (Insert id parent ch) is room joined ok =
    let b : Identifier = record { counter = i.counter + length further; site = i.site } in
    let some : 0 < b.counter = omega (arith, is.first.0.counter_positive) in
    let op_is : Insert id parent ch ≡ Insert (next_of b) (After b) ch = joined_is b id parent ch some joined in
    let counter : id.counter ≡ b.counter + 1 = ap counter_of op_is in
    let longer : length (further ++ ch ∷ []) ≡ length further + 1 = length-append further (ch ∷ []) in
    record {
      is_frame = record {
        first = is.first;
        goes_on = may_go_on i p c (further ++ ch ∷ []) (omega (arith, ok.0.counter_fits, counter, longer));
        scalars = scalars-more further ch is.scalars ok.2;
        few = omega (arith, room, longer);
      };
      first = refl;
      ops = ap (λ (s : List OpView). Insert i p c ∷ s) (followers-more i b further ch refl refl ∙ ap (λ (o : OpView). followers i further ++ o ∷ []) (sym op_is));
    } where
      counter_of : OpView → ℕ
      counter_of (Insert x y z) = x.counter
      counter_of (Erase x) = 0

pub grows : (most : ℕ) (f : Frame) (op : OpView) → IsFrame most f → joins (tip most f) op ≡ true → IsWellFormed op → Grows most f op
grows most f op is joined ok =
    let room = tip_room most f op (ltb (length f.further + 1) most) refl joined in
    grows_last most f.first f.further op is room.0 room.1 ok

-- ---- what is gathered

pub alone_is : (most : ℕ) (op : OpView) → 1 ≤ most → IsWellFormed op → IsFrame most (alone op)
alone_is most op some ok = record { first = ok; goes_on = tt; scalars = tt; few = omega (arith, some) }

gathered_are : (most : ℕ) (f : Frame) (before : Option Identifier) (ops : List OpView) → 1 ≤ most → IsFrame most f → joins before f.first ≡ false → AllByRecursion IsWellFormed ops
    → AreFrames most before (gathered most f ops)
gathered_are most f before [] some is free ok = (is, free, tt)
gathered_are most f before (op ∷ ops) some is free ok =
    (elim (joins (tip most f) op) as (λ b. joins (tip most f) op ≡ b → AreFrames most before (cond b (gathered most (grown f op) ops) (f ∷ gathered most (alone op) ops))) [
      | true ↦ λ e. let more = grows most f op is e ok.0 in gathered_are most (grown f op) before ops some more.is_frame (ap (joins before) more.first ∙ free) ok.1
      | false ↦ λ e. (is, free, gathered_are most (alone op) (tip most f) ops some (alone_is most op some ok.0) e ok.1)
    ]) refl

alone_ops : (o : OpView) (os : List OpView) → frame_ops (alone o) ++ os ≡ o ∷ os
alone_ops (Insert i p c) os = refl
alone_ops (Erase t) os = refl

gathered_ops : (most : ℕ) (f : Frame) (ops : List OpView) → 1 ≤ most → IsFrame most f → AllByRecursion IsWellFormed ops → flat_map frame_ops (gathered most f ops) ≡ frame_ops f ++ ops
gathered_ops most f [] some is ok = flat_map-cons frame_ops f []
gathered_ops most f (op ∷ ops) some is ok =
    (elim (joins (tip most f) op) as (λ b. joins (tip most f) op ≡ b → flat_map frame_ops (cond b (gathered most (grown f op) ops) (f ∷ gathered most (alone op) ops)) ≡ frame_ops f ++ op ∷ ops) [
      | true ↦ λ e.
          let more = grows most f op is e ok.0 in
          gathered_ops most (grown f op) ops some more.is_frame ok.1 ∙ ap (λ (s : List OpView). s ++ ops) more.ops ∙ append_assoc (frame_ops f) (op ∷ []) ops
      | false ↦ λ e.
          flat_map-cons frame_ops f (gathered most (alone op) ops)
          ∙ ap (λ (s : List OpView). frame_ops f ++ s) (gathered_ops most (alone op) ops some (alone_is most op some ok.0) ok.1 ∙ alone_ops op ops)
    ]) refl

pub frames_are : (most : ℕ) (ops : List OpView) → 1 ≤ most → AllByRecursion IsWellFormed ops → AreFrames most None (frames_of most ops)
frames_are most [] some ok = tt
frames_are most (op ∷ ops) some ok = gathered_are most (alone op) None ops some (alone_is most op some ok.0) refl ok.1

pub frames_ops : (most : ℕ) (ops : List OpView) → 1 ≤ most → AllByRecursion IsWellFormed ops → flat_map frame_ops (frames_of most ops) ≡ ops
frames_ops most [] some ok = refl
frames_ops most (Insert i p c ∷ ops) some ok = gathered_ops most (alone (Insert i p c)) ops some (alone_is most (Insert i p c) some ok.0) ok.1
frames_ops most (Erase t ∷ ops) some ok = gathered_ops most (alone (Erase t)) ops some (alone_is most (Erase t) some ok.0) ok.1

-- ---- one more frame

gathered_run : (most : ℕ) (id b : Identifier) (p : Place) (c : ℕ) (done chars : List ℕ) → length done + length chars + 1 ≤ most → b.counter ≡ id.counter + length done → b.site ≡ id.site
    → gathered most (record { first = Insert id p c; further = done }) (followers b chars) ≡ record { first = Insert id p c; further = done ++ chars } ∷ []
gathered_run most id b p c done [] few counter site = λ i. record { first = Insert id p c; further = sym (append-nil done) i } ∷ []
gathered_run most id b p c done (d ∷ chars) few counter site =
    let room : ltb (length done + 1) most ≡ true = lt-ltb _ _ (omega (arith, few)) in
    let last : Identifier = record { counter = id.counter + length done; site = id.site } in
    let at : last ≡ b = same_id last b (sym counter) (sym site) in
    let joined : joins (tip most (record { first = Insert id p c; further = done })) (Insert (next_of b) (After b) d) ≡ true =
    (λ i. joins (cond (room i) (Some (at i)) None) (Insert (next_of b) (After b) d)) ∙ next_joins b d in
    let longer : length (done ++ d ∷ []) ≡ length done + 1 = length-append done (d ∷ []) in
    let others = gathered_run most id (next_of b) p c (done ++ d ∷ []) chars (omega (arith, few, longer)) (omega (arith, counter, longer)) site in
    (λ i. cond (joined i) (gathered most (record { first = Insert id p c; further = done ++ d ∷ [] }) (followers (next_of b) chars))
    (record { first = Insert id p c; further = done } ∷ gathered most (alone (Insert (next_of b) (After b) d)) (followers (next_of b) chars)))
    ∙ others ∙ (λ i. record { first = Insert id p c; further = append_assoc done (d ∷ []) chars i } ∷ [])

-- the operations of a frame are gathered into it
gathered_frame : (most : ℕ) (first : OpView) (further : List ℕ) → IsFrame most (record { first = first; further = further })
    → gathered most (alone first) (further_ops first further) ≡ record { first = first; further = further } ∷ []
gathered_frame most (Insert id p c) further is = gathered_run most id id p c [] further (omega (arith, is.few)) (omega arith) refl
gathered_frame most (Erase t) [] is = refl
gathered_frame most (Erase t) (d ∷ further) is = absurd is.goes_on

gathered_more : (most : ℕ) (f : Frame) (before : Option Identifier) (ops : List OpView) (g : Frame) → IsFrame most g → joins (last_tip most before (gathered most f ops)) g.first ≡ false
    → gathered most f (ops ++ frame_ops g) ≡ gathered most f ops ++ g ∷ []
gathered_more most f before [] g is free =
    (λ i. cond (free i) (gathered most (grown f g.first) (further_ops g.first g.further)) (f ∷ gathered most (alone g.first) (further_ops g.first g.further)))
    ∙ ap (λ (s : List Frame). f ∷ s) (gathered_frame most g.first g.further is)
gathered_more most f before (op ∷ ops) g is free =
    (elim (joins (tip most f) op) as (λ b. joins (last_tip most before (cond b (gathered most (grown f op) ops) (f ∷ gathered most (alone op) ops))) g.first ≡ false
    → cond b (gathered most (grown f op) (ops ++ frame_ops g)) (f ∷ gathered most (alone op) (ops ++ frame_ops g)) ≡ cond b (gathered most (grown f op) ops) (f ∷ gathered most (alone op) ops) ++ g ∷ []) [
      | true ↦ λ free'. gathered_more most (grown f op) before ops g is free'
      | false ↦ λ free'. ap (λ (s : List Frame). f ∷ s) (gathered_more most (alone op) (tip most f) ops g is free')
    ]) free

pub frames_more : (most : ℕ) (ops : List OpView) (g : Frame) → IsFrame most g → joins (tip_of most ops) g.first ≡ false → frames_of most (ops ++ frame_ops g) ≡ frames_of most ops ++ g ∷ []
frames_more most [] g is free = gathered_frame most g.first g.further is
frames_more most (op ∷ ops) g is free = gathered_more most (alone op) None ops g is free

last_tip-more : (most : ℕ) (before : Option Identifier) (frames : List Frame) (g : Frame) → last_tip most before (frames ++ g ∷ []) ≡ tip most g
last_tip-more most before [] g = refl
last_tip-more most before (f ∷ frames) g = last_tip-more most (tip most f) frames g

pub tip_more : (most : ℕ) (ops : List OpView) (g : Frame) → IsFrame most g → joins (tip_of most ops) g.first ≡ false → tip_of most (ops ++ frame_ops g) ≡ tip most g
tip_more most ops g is free = ap (λ (fs : List Frame). last_tip most None fs) (frames_more most ops g is free) ∙ last_tip-more most None (frames_of most ops) g

-- ---- how many frames there are

length-gathered : (most : ℕ) (f : Frame) (ops : List OpView) → length (gathered most f ops) ≤ length ops + 1
length-gathered most f [] = omega arith
length-gathered most f (op ∷ ops) =
    elim (joins (tip most f) op) as (λ b. length (cond b (gathered most (grown f op) ops) (f ∷ gathered most (alone op) ops)) ≤ length (op ∷ ops) + 1) [
      | true ↦ omega (arith, length-gathered most (grown f op) ops)
      | false ↦ omega (arith, length-gathered most (alone op) ops)
    ]

pub length-frames_of : (most : ℕ) (ops : List OpView) → length (frames_of most ops) ≤ length ops
length-frames_of most [] = omega arith
length-frames_of most (op ∷ ops) = omega (arith, length-gathered most (alone op) ops)

-- ---- the operations of a frame are well formed

well-more : (xs ys : List OpView) → AllByRecursion IsWellFormed xs → AllByRecursion IsWellFormed ys → AllByRecursion IsWellFormed (xs ++ ys)
well-more [] ys all others = others
well-more (x ∷ xs) ys all others = (all.0, well-more xs ys all.1 others)

followers_well : (id : Identifier) (chars : List ℕ) → IsIdentifier id → id.counter + length chars < 2 ^ 32 → AllByRecursion IsScalar chars → AllByRecursion IsWellFormed (followers id chars)
followers_well id [] ok few all = tt
followers_well id (c ∷ chars) ok few all =
    let next : IsIdentifier (next_of id) = record { counter_positive = omega arith; counter_fits = omega (arith, few); site_positive = ok.site_positive; site_fits = ok.site_fits } in
    ((next, (ok, omega arith), all.0), followers_well (next_of id) chars next (omega (arith, few)) all.1)

further_fits : (id : Identifier) (p : Place) (c : ℕ) (chars : List ℕ) → IsIdentifier id → MayGoOn (Insert id p c) chars → id.counter + length chars < 2 ^ 32
further_fits id p c [] ok goes = omega (arith, ok.counter_fits)
further_fits id p c (d ∷ chars) ok goes = goes

pub frame_well : (most : ℕ) (first : OpView) (further : List ℕ) → IsFrame most (record { first = first; further = further }) → AllByRecursion IsWellFormed (frame_ops (record { first = first; further = further }))
frame_well most (Insert id p c) further is = (is.first, followers_well id further is.first.0 (further_fits id p c further is.first.0 is.goes_on) is.scalars)
frame_well most (Erase t) further is = (is.first, tt)

pub more_well : (most : ℕ) (ops : List OpView) (f : Frame) → AllByRecursion IsWellFormed ops → IsFrame most f → AllByRecursion IsWellFormed (ops ++ frame_ops f)
more_well most ops f all is = well-more ops (frame_ops f) all (frame_well most f.first f.further is)

-- ---- version 1

-- where a frame takes one insertion, each operation has its own
pub frames_alone : (op : OpView) (ops : List OpView) → flat_map frame_bytes (gathered 1 (alone op) ops) ≡ frame op ++ flat_map frame ops
frames_alone op [] = flat_map-cons frame_bytes (alone op) []
frames_alone op (o ∷ ops) =
    flat_map-cons frame_bytes (alone op) (gathered 1 (alone o) ops) ∙ ap (λ (s : List ℕ). frame op ++ s) (frames_alone o ops ∙ sym (flat_map-cons frame o ops))

pub spelling_one : (ops : List OpView) → spelling_in One ops ≡ spelling ops
spelling_one [] = refl
spelling_one (op ∷ ops) = ap (λ (s : List ℕ). header One ++ s) (frames_alone op ops ∙ sym (flat_map-cons frame op ops))
