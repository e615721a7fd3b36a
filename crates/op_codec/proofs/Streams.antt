-- What a stream reads after operations that were handed on, and where it stands then.
use Rattle.std.proofs.Common.{◌≡◌, ℕ, ◌+◌, ◌-◌, ◌^◌, ◌<◌, ◌≤◌, List, [], ◌∷◌, ◌++◌, length, take, drop, Option, Some, None, Result, Err, refl, sym, ap, subst, ◌∙◌, append_assoc, arith}
use Rattle.std.specs.Prelude.{OnOk, IfErr, IfSome}
use Rattle.std.specs.List.{flat_map}
use Rattle.std.proofs.Math.Seq.{drop-append_seam, take-append_seam}
use Rattle.std.proofs.lemmas.List.{append-nil, drop_all, length-append, length-take, take-append-drop, drop-append-le}
use Rattle.bg_types.specs.declared.op.OpView.{OpView}
use Rattle.op_codec.specs.declared.fault.CodecFault.{CodecFault}
use Rattle.op_codec.specs.declared.fault.CodecFault.TheVariants.{Memory}
use Rattle.op_codec.specs.declared.position.Position.{Position}
use Rattle.op_codec.specs.Spelling.{Frame, frame_bytes, frame_ops, header, most_insertions, frames_of, spelling_in, Spells}
use Rattle.op_codec.specs.Fault.{header_cause, IsFault}
use Rattle.op_codec.specs.Feed.{IsFeedOutcome, IsSound, IsBehind, IsCut, bytes_of, kept_fault, IsMissing, TellsKept, TakesFrame, TakesIn, AreTaken, Standing, StandsAfter, GoesOn, MovesOn, added}
use Rattle.op_codec.proofs.Complete.{bytes_positive}
use Rattle.op_codec.proofs.Feeds.{few_frames, kept_missing, kept_told, kept_spelled, sound_kept_so, faulty_before, answered, more_read, taken_well, taken_behind}

-- ---- what was written after other operations

pub added-none : (xs : List OpView) → added xs xs ≡ []
added-none xs = drop_all (length xs) xs (omega arith)

pub added-all : (old new : List OpView) → take (length old) new ≡ old → old ++ added old new ≡ new
added-all old new e = ap (λ (xs : List OpView). xs ++ drop (length old) new) (sym e) ∙ take-append-drop (length old) new

added-one : (old new more : List OpView) → new ≡ old ++ more → added old new ≡ more
added-one old new more e = ap (drop (length old)) e ∙ drop-append_seam old more

pub added-twice : (first ops new : List OpView) → take (length first) ops ≡ first → take (length ops) new ≡ ops → added first new ≡ added first ops ++ added ops new
added-twice first ops new e h =
    let longer : length first ≤ length ops = omega (arith, length-take (length first) ops, ap (λ (xs : List OpView). length xs) e) in
    ap (drop (length first)) (sym (added-all ops new h)) ∙ drop-append-le (length first) ops (added ops new) longer

pub joined-twice : (before first ops new : List OpView) → take (length first) ops ≡ first → take (length ops) new ≡ ops → (before ++ added first ops) ++ added ops new ≡ before ++ added first new
joined-twice before first ops new e h = append_assoc before (added first ops) (added ops new) ∙ ap (λ (xs : List OpView). before ++ xs) (sym (added-twice first ops new e h))

pub joined-none : (before ops : List OpView) → before ++ added ops ops ≡ before
joined-none before ops = ap (λ (xs : List OpView). before ++ xs) (added-none ops) ∙ append-nil before

pub joined-same : (before ops new : List OpView) → new ≡ ops → before ++ added ops new ≡ before
joined-same before ops new e = ap (λ (xs : List OpView). before ++ added ops xs) e ∙ joined-none before ops

-- ---- frames after operations that were handed on

pub taken_after : (at now : Position) (before old new : List OpView) (bytes rest : List ℕ) → TakesIn at now old new bytes rest → TakesIn at now before (before ++ added old new) bytes rest
taken_after at now before old new bytes rest h = record { f = h.f; takes = h.takes; next = h.next; ops = ap (λ (xs : List OpView). before ++ xs) (added-one old new (frame_ops h.f) h.ops) }

-- one more frame was read
pub moves_more : (start at next : Position) (before first ops new : List OpView) (bytes rest after : List ℕ) → take (length first) ops ≡ first → TakesIn at next ops new rest after
    → MovesOn start at before (before ++ added first ops) bytes rest → MovesOn start next before (before ++ added first new) bytes after
moves_more start at next before first ops new bytes rest after grown took m =
    let mid = before ++ added first ops in
    let all = before ++ added first new in
    let kept : take (length ops) new ≡ ops = ap (λ (xs : List OpView). take (length ops) xs) took.ops ∙ take-append_seam ops (frame_ops took.f) in
    let one : TakesIn at next mid all rest after = subst (λ (xs : List OpView). TakesIn at next mid xs rest after) (joined-twice before first ops new grown kept) (taken_after at next mid ops new rest after took) in
    record {
      version = took.next.version ∙ m.version;
      read = more_read start.version at next before mid all bytes rest after m.version m.read m.behind one;
      well_formed = taken_well at next mid all rest after one m.well_formed;
      behind = taken_behind at next mid all rest after one m.behind;
    }

-- a frame has a byte
pub frame_shortens : (at : Position) (bytes rest : List ℕ) (f : Frame) → TakesFrame at bytes f rest → length rest < length bytes
frame_shortens at bytes rest f h = let size = ap (λ (s : List ℕ). length s) h.begins.spelled in let some = bytes_positive f.first f.further rest in omega (arith, size, some)

frames_few : (fs : List Frame) → length fs ≤ length (flat_map frame_bytes fs)
frames_few [] = omega arith
frames_few (f ∷ fs) =
    let some = bytes_positive f.first f.further [] in
    let none = ap (λ (s : List ℕ). length s) (append-nil (frame_bytes f)) in
    let size = length-append (frame_bytes f) (flat_map frame_bytes fs) in
    let later = frames_few fs in
    omega (arith, some, none, size, later)

bytes_few : (at : Position) (ops : List OpView) (kept : List ℕ) → IsBehind at ops → at.frames ≤ length (spelling_in at.version ops ++ kept)
bytes_few at ops kept is =
    let frames = frames_of (most_insertions at.version) ops in
    let few = frames_few frames in
    let count = is.frames in
    let whole = length-append (header at.version ++ flat_map frame_bytes frames) kept in
    let part = length-append (header at.version) (flat_map frame_bytes frames) in
    omega (arith, few, count, whole, part)

-- ---- where a stream stands

pub stands_so : (position : Option Position) (ops : List OpView) (kept : List ℕ) → IsCut position ops kept → StandsAfter (record { position = position; kept = kept }) (bytes_of position ops kept) ops
stands_so None ops kept cut = record { read = refl; cut = cut; few = tt }
stands_so (Some at) ops kept cut = record { read = refl; cut = cut; few = bytes_few at ops kept cut.1 }

module _ (s : Standing) (bytes piece : List ℕ) (before : List OpView) (h : StandsAfter s bytes before) where
  -- the kept bytes had shown a fault
  pub goes_faulty : (ops : List OpView) (fault : CodecFault) → TellsKept (kept_fault s.position s.kept) fault → GoesOn bytes piece before (added ops ops) s (Err fault)
  goes_faulty ops fault told =
      subst (λ (b : List ℕ). GoesOn b piece before (added ops ops) s (Err fault)) (sym h.read) (record {
        fed = bytes_of s.position before s.kept;
        outcome = faulty_before s.position before s.kept piece fault h.cut told;
        stands = subst (λ (xs : List OpView). StandsAfter s (bytes_of s.position before s.kept) xs) (sym (joined-none before ops)) (stands_so s.position before s.kept h.cut);
      })

  module _ (missing : IsMissing (kept_fault s.position s.kept)) where
    sound : IsSound (bytes_of s.position before s.kept)
    sound = sound_kept_so s.position before s.kept h.cut (kept_missing s.position before s.kept h.cut missing)

    -- the piece was read
    pub goes_on : (position : Option Position) (more : List OpView) (kept : List ℕ) (r : Result (Unit {0}) CodecFault) → (IsCut s.position before s.kept → AreTaken (bytes_of s.position before s.kept ++ piece) position (before ++ more) kept)
        → OnOk r (IsMissing (kept_fault position kept)) → IfErr r (TellsKept (kept_fault position kept)) → GoesOn bytes piece before more (record { position = position; kept = kept }) r
    goes_on position more kept r took ok err =
        let taken = took h.cut in
        subst (λ (b : List ℕ). GoesOn b piece before more (record { position = position; kept = kept }) r) (sym h.read) (record {
          fed = bytes_of position (before ++ more) kept;
          outcome = answered (bytes_of s.position before s.kept) piece position (before ++ more) kept r sound taken ok err;
          stands = stands_so position (before ++ more) kept taken.cut;
        })

    -- memory was refused, and nothing has changed
    pub goes_nowhere : (ops : List OpView) → header_cause (bytes_of s.position before s.kept ++ piece) ≡ None → GoesOn bytes piece before (added ops ops) s (Err Memory)
    goes_nowhere ops right =
        subst (λ (b : List ℕ). GoesOn b piece before (added ops ops) s (Err Memory)) (sym h.read) (record {
          fed = bytes_of s.position before s.kept;
          outcome = (refl, sound, right);
          stands = subst (λ (xs : List OpView). StandsAfter s (bytes_of s.position before s.kept) xs) (sym (joined-none before ops)) (stands_so s.position before s.kept h.cut);
        })

-- ---- the end

pub ends_spelled : (s : Standing) (bytes : List ℕ) (ops : List OpView) → kept_fault s.position s.kept ≡ None → StandsAfter s bytes ops → Spells bytes ops
ends_spelled s bytes ops none h = subst (λ (b : List ℕ). Spells b ops) (sym h.read) (kept_spelled s.position ops s.kept h.cut none)

pub ends_faulty : (s : Standing) (bytes : List ℕ) (ops : List OpView) (frame : ℕ) (cause : _) → kept_fault s.position s.kept ≡ Some (frame, cause) → StandsAfter s bytes ops → IsFault bytes frame cause
ends_faulty s bytes ops frame cause told h = subst (λ (b : List ℕ). IsFault b frame cause) (sym h.read) (kept_told s.position ops s.kept frame cause h.cut told)

-- ---- a stream whose operations are all kept

pub position_few : (position : Option Position) (ops : List OpView) (kept piece : List ℕ) → IsCut position ops kept → length ops + length piece < 2 ^ 64 - 2 → IfSome position (λ at. at.frames + length piece < 2 ^ 64 - 2)
position_few None ops kept piece cut few = tt
position_few (Some at) ops kept piece cut few = let frames = few_frames at ops cut.1 in omega (arith, frames, few)

module _ (old now : Standing) (ops new : List OpView) (piece : List ℕ) (r : Result (Unit {0}) CodecFault) (cut : IsCut old.position ops old.kept) (grown : take (length ops) new ≡ ops)
    (fed : (bytes : List ℕ) (before : List OpView) → StandsAfter old bytes before → GoesOn bytes piece before (added ops new) now r) where
  goes : GoesOn (bytes_of old.position ops old.kept) piece ops (added ops new) now r
  goes = fed (bytes_of old.position ops old.kept) ops (stands_so old.position ops old.kept cut)

  stands : StandsAfter now goes.fed new
  stands = subst (λ (xs : List OpView). StandsAfter now goes.fed xs) (added-all ops new grown) goes.stands

  pub fed_cut : IsCut now.position new now.kept
  fed_cut = stands.cut

  pub fed_outcome : IsFeedOutcome (bytes_of old.position ops old.kept) piece (bytes_of now.position new now.kept) r
  fed_outcome = subst (λ (b : List ℕ). IsFeedOutcome (bytes_of old.position ops old.kept) piece b r) stands.read goes.outcome
