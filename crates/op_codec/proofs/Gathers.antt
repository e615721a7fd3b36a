-- The operations at the front of a list that make its first frame.
use Rattle.std.proofs.Common.{◌≡◌, ℕ, ◌+◌, ◌<◌, true, ltb, cond, List, [], ◌∷◌, ◌++◌, length, get_or, take, drop, Option, Some, None, refl, sym, ap, subst, ◌∙◌, arith}
use Rattle.std.specs.List.{AllByRecursion}
use Rattle.std.proofs.lemmas.Bool.{lt-ltb}
use Rattle.std.proofs.lemmas.List.{append-nil, length-append, take_more, drop_more}
use Rattle.bg_types.specs.Identifier.{Identifier}
use Rattle.bg_types.specs.WellFormed.{IsWellFormed}
use Rattle.bg_types.specs.declared.op.OpView.{OpView}
use Rattle.bg_types.specs.declared.op.OpView.TheVariants.{Insert, Erase}
use Rattle.op_codec.specs.Spelling.{Frame, next_of, last_id, joins, tip, grown, gathered, frames_of}
use Rattle.op_codec.specs.Frames.{IsFrame}
use Rattle.op_codec.specs.Gathering.{inserted_characters}
use Rattle.op_codec.proofs.Gathered.{alone, grows, same_id, joined_is}

-- the frame of an operation and these further insertions
abbrev pub frame_of : OpView → List OpView → Frame
frame_of first further = record { first = first; further = inserted_characters further }

pub inserted-append : (xs ys : List OpView) → inserted_characters (xs ++ ys) ≡ inserted_characters xs ++ inserted_characters ys
inserted-append [] ys = refl
inserted-append (Insert i p c ∷ xs) ys = ap (λ (s : List ℕ). c ∷ s) (inserted-append xs ys)
inserted-append (Erase t ∷ xs) ys = inserted-append xs ys

-- what is true of the operations that were gathered so far
pub record IsGathered (first : OpView) (ops : List OpView) (i : ℕ) (last : Option Identifier) : Type 0 where
  pub is_frame : IsFrame 1024 (frame_of first (take i ops))
  pub insertions : length (inserted_characters (take i ops)) ≡ i
  pub last_is : last ≡ last_id first (inserted_characters (take i ops))
  pub frames : frames_of 1024 (first ∷ ops) ≡ gathered 1024 (frame_of first (take i ops)) (drop i ops)
  pub well_formed : AllByRecursion IsWellFormed (take i ops)

-- ---- one more

pub no_erasure : (before : Option Identifier) (t : Identifier) → joins before (Erase t) ≡ true → ⊥
no_erasure None t e = cc
no_erasure (Some b) t e = cc

-- the last identifier after one more insertion
last-more : (first : OpView) (chars : List ℕ) (op : OpView) → IsWellFormed first → joins (last_id first chars) op ≡ true → last_id op [] ≡ last_id first (chars ++ inserted_characters (op ∷ []))
last-more (Erase x) chars op ok joined = absurd cc
last-more (Insert i q d) chars (Erase x) ok joined = absurd cc
last-more (Insert i q d) chars (Insert id p c) ok joined =
    let b : Identifier = record { counter = i.counter + length chars; site = i.site } in
    let op_is : Insert id p c ≡ Insert (next_of b) _ c = joined_is b id p c (omega (arith, ok.0.counter_positive)) joined in
    let counter : id.counter ≡ b.counter + 1 = ap counter_of op_is in
    let site : id.site ≡ i.site = ap site_of op_is in
    let longer : length (chars ++ c ∷ []) ≡ length chars + 1 = length-append chars (c ∷ []) in
    ap Some (same_id (record { counter = id.counter + 0; site = id.site }) (record { counter = i.counter + length (chars ++ c ∷ []); site = i.site }) (omega (arith, counter, longer)) site)
  where
    counter_of : OpView → ℕ
    counter_of (Insert x y z) = x.counter
    counter_of (Erase x) = 0

    site_of : OpView → ℕ
    site_of (Insert x y z) = x.site
    site_of (Erase x) = 0

grown-is : (first : OpView) (done : List OpView) (op : OpView) → grown (frame_of first done) op ≡ frame_of first (done ++ op ∷ [])
grown-is first done (Insert i p c) = λ j. record { first = first; further = sym (inserted-append done (Insert i p c ∷ [])) j }
grown-is first done (Erase t) = λ j. record { first = first; further = (sym (append-nil (inserted_characters done)) ∙ sym (inserted-append done (Erase t ∷ []))) j }

inserted_one : (before : Option Identifier) (op : OpView) → joins before op ≡ true → length (inserted_characters (op ∷ [])) ≡ 1
inserted_one before (Insert i p c) e = refl
inserted_one before (Erase t) e = absurd (no_erasure before t e)

well-push : (done : List OpView) (op : OpView) → AllByRecursion IsWellFormed done → IsWellFormed op → AllByRecursion IsWellFormed (done ++ op ∷ [])
well-push [] op all ok = (ok, tt)
well-push (x ∷ done) op all ok = (all.0, well-push done op all.1 ok)

pub gathered_one : (first : OpView) (ops : List OpView) (i : ℕ) (last : Option Identifier) (op : OpView) (next : Option Identifier) → IsGathered first ops i last → i < length ops → op ≡ get_or ops i op → i < 1023
    → joins last op ≡ true → IsWellFormed op → next ≡ last_id op [] → IsGathered first ops (i + 1) next
gathered_one first ops i last op next g inside is few joined ok next_is =
    let done = take i ops in
    let f = frame_of first done in
    let item : op ≡ get_or ops i op = is in
    let more : take (i + 1) ops ≡ done ++ op ∷ [] = take_more ops i op inside ∙ ap (λ (x : OpView). done ++ x ∷ []) (sym item) in
    let rest : drop i ops ≡ op ∷ drop (i + 1) ops = drop_more ops i op inside ∙ ap (λ (x : OpView). x ∷ drop (i + 1) ops) (sym item) in
    let room : ltb (length (inserted_characters done) + 1) 1024 ≡ true = lt-ltb _ _ (omega (arith, g.insertions, few)) in
    let at_last : joins (last_id first (inserted_characters done)) op ≡ true = ap (λ (x : Option Identifier). joins x op) (sym g.last_is) ∙ joined in
    let at_tip : joins (tip 1024 f) op ≡ true = (λ j. joins (cond (room j) (last_id first (inserted_characters done)) None) op) ∙ at_last in
    let grew = grows 1024 f op g.is_frame at_tip ok in
    let same : grown f op ≡ frame_of first (take (i + 1) ops) = grown-is first done op ∙ ap (λ (s : List OpView). frame_of first s) (sym more) in
    let chars : inserted_characters (take (i + 1) ops) ≡ inserted_characters done ++ inserted_characters (op ∷ []) = ap inserted_characters more ∙ inserted-append done (op ∷ []) in
    record {
      is_frame = subst (λ (h : Frame). IsFrame 1024 h) same grew.is_frame;
      insertions = ap (λ (s : List ℕ). length s) chars ∙ omega (arith, length-append (inserted_characters done) (inserted_characters (op ∷ [])), inserted_one last op joined, g.insertions);
      last_is = next_is ∙ last-more first (inserted_characters done) op g.is_frame.first at_last ∙ ap (λ (s : List ℕ). last_id first s) (sym chars);
      frames = g.frames ∙ ap (λ (s : List OpView). gathered 1024 f s) rest
          ∙ (λ j. cond (at_tip j) (gathered 1024 (grown f op) (drop (i + 1) ops)) (f ∷ gathered 1024 (alone op) (drop (i + 1) ops)))
          ∙ ap (λ (h : Frame). gathered 1024 h (drop (i + 1) ops)) same;
      well_formed = subst (AllByRecursion IsWellFormed) (sym more) (well-push done op g.well_formed ok);
    }
