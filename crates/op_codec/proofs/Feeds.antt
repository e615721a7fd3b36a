-- What a feed keeps, before and after a piece.
use Rattle.std.proofs.Common.{◌≡◌, ℕ, ◌+◌, ◌<◌, ◌≤◌, false, List, [], ◌∷◌, ◌++◌, length, take, Option, Some, None, Result, Ok, Err, refl, sym, ap, subst, ◌∙◌, append_assoc, arith, inl, inr}
use Rattle.std.specs.Prelude.{option_map, OnOk, IfErr, IfSome, IfNone}
use Rattle.std.specs.List.{AllByRecursion}
use Rattle.std.proofs.lemmas.List.{append-nil, length-append, length-take, take-take}
use Rattle.bg_types.specs.WellFormed.{IsWellFormed}
use Rattle.bg_types.specs.declared.op.OpView.{OpView}
use Rattle.op_codec.specs.declared.fault.Cause.{Cause}
use Rattle.op_codec.specs.declared.fault.Cause.TheVariants.{Truncated}
use Rattle.op_codec.specs.declared.fault.CodecFault.{CodecFault}
use Rattle.op_codec.specs.declared.fault.CodecFault.TheVariants.{Malformed, Memory}
use Rattle.op_codec.specs.declared.position.Version.{Version}
use Rattle.op_codec.specs.declared.position.Position.{Position}
use Rattle.op_codec.specs.Spelling.{Frame, header, most_insertions, frames_of, tip_of, joins, spelling_in, Spells}
use Rattle.op_codec.specs.Fault.{header_cause, cause_at, IsFault, TellsFault}
use Rattle.op_codec.specs.Feed.{IsSound, IsLasting, IsFeedOutcome, bytes_of, kept_cause, ShowsCause, IsCut, kept_fault, IsMissing, TellsKept, IsStopped, TakesFrame, IsBehind, TakesIn, AreTaken}
use Rattle.op_codec.proofs.Unique.{one_fault, never_both}
use Rattle.op_codec.proofs.Faultless.{cause_at-frame}
use Rattle.op_codec.proofs.Complete.{more_spelled}
use Rattle.op_codec.proofs.Gathered.{frames_more, tip_more, more_well, length-frames_of}
use Rattle.op_codec.proofs.Pieces.{all_fed, piece_faulty}

-- ---- what the kept bytes show is what all bytes show

-- what follows frames is judged after their tip
shown_behind : (at : Position) (ops : List OpView) (kept : List ℕ) (cause : Cause) → IsBehind at ops → cause_at at.version at.tip kept ≡ Some cause → cause_at at.version (tip_of (most_insertions at.version) ops) kept ≡ Some cause
shown_behind at ops kept cause is shown = ap (λ t. cause_at at.version t kept) (sym is.tip) ∙ shown

fault_behind : (at : Position) (ops : List OpView) (b : ℕ) (kept : List ℕ) (cause : Cause) → AllByRecursion IsWellFormed ops → IsBehind at ops → cause_at at.version at.tip (b ∷ kept) ≡ Some cause
    → IsFault (spelling_in at.version ops ++ b ∷ kept) (at.frames + 1) cause
fault_behind at ops b kept cause ok is shown = inr (record {
  version = at.version;
  ops = ops;
  rest = b ∷ kept;
  number = ap (λ (k : ℕ). k + 1) is.frames;
  before = refl;
  well_formed = ok;
  goes_on = omega arith;
  shown = shown_behind at ops (b ∷ kept) cause is shown;
})

abbrev with_frame : ℕ → Option Cause → Option (ℕ × Cause)
with_frame n shown = option_map {U = ℕ × Cause} (λ cause. (n, cause)) shown

some_one : {A : Type 0} (x y : A) → Some x ≡ Some y → x ≡ y
some_one x y e = cc

told_at : (n : ℕ) (o : Option Cause) (frame : ℕ) (cause : Cause) → with_frame n o ≡ Some (frame, cause) → (n ≡ frame) × (o ≡ Some cause)
told_at n None frame cause e = absurd cc
told_at n (Some c) frame cause e =
    let pair = some_one {A = ℕ × Cause} (n, c) (frame, cause) e in
    (ap (λ (p : ℕ × Cause). p.0) pair, ap (λ (p : ℕ × Cause). Some p.1) pair)

never_none : (n : ℕ) (o : Option Cause) (cause : Cause) → o ≡ Some cause → with_frame n o ≡ None → ⊥
never_none n None cause e f = cc
never_none n (Some c) cause e f = cc

pub kept_told : (position : Option Position) (ops : List OpView) (kept : List ℕ) (frame : ℕ) (cause : Cause) → IsCut position ops kept → kept_fault position kept ≡ Some (frame, cause)
    → IsFault (bytes_of position ops kept) frame cause
kept_told None ops kept frame cause cut e = let found = told_at 0 (header_cause kept) frame cause e in inl (sym found.0, found.1)
kept_told (Some at) ops [] frame cause cut e = absurd cc
kept_told (Some at) ops (b ∷ kept) frame cause cut e =
    let found = told_at (at.frames + 1) (cause_at at.version at.tip (b ∷ kept)) frame cause e in
    subst (λ (k : ℕ). IsFault (spelling_in at.version ops ++ b ∷ kept) k cause) found.0 (fault_behind at ops b kept cause cut.0 cut.1 found.1)

pub kept_spelled : (position : Option Position) (ops : List OpView) (kept : List ℕ) → IsCut position ops kept → kept_fault position kept ≡ None → Spells (bytes_of position ops kept) ops
kept_spelled None ops kept cut e = absurd (never_none 0 (header_cause kept) cut.1.0 cut.1.1 e)
kept_spelled (Some at) ops [] cut e = record { version = at.version; spelled = record { bytes = append-nil (spelling_in at.version ops); well_formed = cut.0 } }
kept_spelled (Some at) ops (b ∷ kept) cut e = absurd (never_none (at.frames + 1) (cause_at at.version at.tip (b ∷ kept)) cut.2.0 cut.2.1 e)

-- a missing byte is all that the kept bytes show
pub shown_missing : (position : Option Position) (kept : List ℕ) → ShowsCause position kept → IsMissing (kept_fault position kept) → kept_cause position kept ≡ Some Truncated
shown_missing None kept shown missing =
    let some : kept_fault None kept ≡ Some (0, shown.0) = ap (with_frame 0) shown.1 in
    let is : shown.0 ≡ Truncated = subst IsMissing some missing in
    shown.1 ∙ ap Some is
shown_missing (Some at) [] shown missing = refl
shown_missing (Some at) (b ∷ kept) shown missing =
    let some : kept_fault (Some at) (b ∷ kept) ≡ Some (at.frames + 1, shown.0) = ap (with_frame (at.frames + 1)) shown.1 in
    let is : shown.0 ≡ Truncated = subst IsMissing some missing in
    shown.1 ∙ ap Some is

cut_shown : (position : Option Position) (ops : List OpView) (kept : List ℕ) → IsCut position ops kept → ShowsCause position kept
cut_shown None ops kept cut = cut.1
cut_shown (Some at) ops kept cut = cut.2

pub kept_missing : (position : Option Position) (ops : List OpView) (kept : List ℕ) → IsCut position ops kept → IsMissing (kept_fault position kept) → kept_cause position kept ≡ Some Truncated
kept_missing position ops kept cut missing = shown_missing position kept (cut_shown position ops kept cut) missing

pub sound_kept_so : (position : Option Position) (ops : List OpView) (kept : List ℕ) → IsCut position ops kept → kept_cause position kept ≡ Some Truncated → IsSound (bytes_of position ops kept)
sound_kept_so None ops kept cut missing n cause fault = (one_fault kept n 0 cause Truncated fault (inl (refl, missing))).1
sound_kept_so (Some at) ops [] cut missing n cause fault =
    absurd (never_both (spelling_in at.version ops ++ []) ops n cause (record { version = at.version; spelled = record { bytes = append-nil (spelling_in at.version ops); well_formed = cut.0 } }) fault)
sound_kept_so (Some at) ops (b ∷ kept) cut missing n cause fault =
    (one_fault (spelling_in at.version ops ++ b ∷ kept) n (at.frames + 1) cause Truncated fault (fault_behind at ops b kept Truncated cut.0 cut.1 missing)).1

-- there are no more frames than operations
pub few_frames : (at : Position) (ops : List OpView) → IsBehind at ops → at.frames ≤ length ops
few_frames at ops is = omega (arith, is.frames, length-frames_of (most_insertions at.version) ops)

-- ---- how a piece is read

-- after the same operations
pub behind : (front bytes kept : List ℕ) (shown : Option Cause) → IsStopped bytes kept shown → IsStopped (front ++ bytes) (front ++ kept) shown
behind front bytes kept shown h = record {
  cause = h.cause;
  more = h.more;
  is_shown = h.is_shown;
  begins = ap (λ (s : List ℕ). front ++ s) h.begins ∙ sym (append_assoc front kept h.more);
  all = h.all;
}

-- the frames at the front were read, and what follows them is kept
pub frames_taken : (v : Version) (now : Position) (ops grown : List OpView) (bytes rest kept : List ℕ) → now.version ≡ v → AllByRecursion IsWellFormed grown → IsBehind now grown
    → spelling_in v ops ++ bytes ≡ spelling_in v grown ++ rest → IsStopped rest kept (cause_at now.version now.tip kept) → AreTaken (spelling_in v ops ++ bytes) (Some now) grown kept
frames_taken v now ops grown bytes rest kept version ok is read h =
    let same : spelling_in now.version grown ++ rest ≡ spelling_in v ops ++ bytes = ap (λ (u : Version). spelling_in u grown ++ rest) version ∙ sym read in
    record {
      cut = (ok, is, (h.cause, h.is_shown));
      stopped = subst (λ (s : List ℕ). IsStopped s (spelling_in now.version grown ++ kept) (cause_at now.version now.tip kept)) same (behind (spelling_in now.version grown) rest kept (cause_at now.version now.tip kept) h);
    }

-- the piece completes no frame
pub frame_stays : (at : Position) (ops same : List OpView) (old piece kept : List ℕ) → AllByRecursion IsWellFormed ops → IsBehind at ops → IsStopped (old ++ piece) kept (cause_at at.version at.tip kept) × (same ≡ ops)
    → AreTaken ((spelling_in at.version ops ++ old) ++ piece) (Some at) same kept
frame_stays at ops same old piece kept ok is h =
    subst (λ (xs : List OpView). AreTaken ((spelling_in at.version ops ++ old) ++ piece) (Some at) xs kept) (sym h.1) (record {
      cut = (ok, is, (h.0.cause, h.0.is_shown));
      stopped = subst (λ (s : List ℕ). IsStopped s (spelling_in at.version ops ++ kept) (cause_at at.version at.tip kept)) (sym (append_assoc (spelling_in at.version ops) old piece))
          (behind (spelling_in at.version ops) (old ++ piece) kept (cause_at at.version at.tip kept) h.0);
    })

-- ---- one more frame

free_behind : (at : Position) (ops : List OpView) (f : Frame) → IsBehind at ops → joins at.tip f.first ≡ false → joins (tip_of (most_insertions at.version) ops) f.first ≡ false
free_behind at ops f is free = ap (λ t. joins t f.first) (sym is.tip) ∙ free

pub taken_well : (at now : Position) (ops new : List OpView) (bytes rest : List ℕ) → TakesIn at now ops new bytes rest → AllByRecursion IsWellFormed ops → AllByRecursion IsWellFormed new
taken_well at now ops new bytes rest h all = subst (AllByRecursion IsWellFormed) (sym h.ops) (more_well (most_insertions at.version) ops h.f all h.takes.begins.is_frame)

pub taken_behind : (at now : Position) (ops new : List OpView) (bytes rest : List ℕ) → TakesIn at now ops new bytes rest → IsBehind at ops → IsBehind now new
taken_behind at now ops new bytes rest h is =
    let most = most_insertions at.version in
    let free = free_behind at ops h.f is h.takes.alone in
    let grown : frames_of (most_insertions now.version) new ≡ frames_of most ops ++ h.f ∷ [] = (λ i. frames_of (most_insertions (h.next.version i)) (h.ops i)) ∙ frames_more most ops h.f h.takes.begins.is_frame free in
    record {
      frames = h.next.frames ∙ ap (λ (k : ℕ). k + 1) is.frames ∙ sym (ap (λ (fs : List Frame). length fs) grown ∙ length-append (frames_of most ops) (h.f ∷ []));
      tip = h.next.tip ∙ sym ((λ i. tip_of (most_insertions (h.next.version i)) (h.ops i)) ∙ tip_more most ops h.f h.takes.begins.is_frame free);
    }

pub taken_spelled : (at now : Position) (ops new : List OpView) (bytes rest : List ℕ) → TakesIn at now ops new bytes rest → IsBehind at ops → spelling_in at.version ops ++ bytes ≡ spelling_in at.version new ++ rest
taken_spelled at now ops new bytes rest h is =
    ap (λ (s : List ℕ). spelling_in at.version ops ++ s) h.takes.begins.spelled ∙ more_spelled at.version ops h.f rest h.takes.begins.is_frame (free_behind at ops h.f is h.takes.alone)
    ∙ ap (λ (xs : List OpView). spelling_in at.version xs ++ rest) (sym h.ops)

-- the piece completes a frame, and further frames were read
pub frame_goes_on : (at next now : Position) (ops pushed grown : List OpView) (old piece rest kept : List ℕ) → IsBehind at ops → TakesIn at next ops pushed (old ++ piece) rest → AreTaken (spelling_in next.version pushed ++ rest) (Some now) grown kept
    → AreTaken ((spelling_in at.version ops ++ old) ++ piece) (Some now) grown kept
frame_goes_on at next now ops pushed grown old piece rest kept is h taken =
    let same : (spelling_in at.version ops ++ old) ++ piece ≡ spelling_in next.version pushed ++ rest =
    append_assoc (spelling_in at.version ops) old piece ∙ taken_spelled at next ops pushed (old ++ piece) rest h is ∙ ap (λ (v : Version). spelling_in v pushed ++ rest) (sym h.next.version) in
    subst (λ (s : List ℕ). AreTaken s (Some now) grown kept) (sym same) taken

-- the piece completes no header
pub header_stays : (ops : List OpView) (old piece kept : List ℕ) → ops ≡ [] → IsStopped (old ++ piece) kept (header_cause kept) → AreTaken (old ++ piece) None ops kept
header_stays ops old piece kept none h = record { cut = (none, (h.cause, h.is_shown)); stopped = h }

-- the piece completes the header
pub header_goes_on : (version : Version) (now : Position) (ops grown : List OpView) (old piece rest kept : List ℕ) → ops ≡ [] → old ++ piece ≡ header version ++ rest → AreTaken (spelling_in version ops ++ rest) (Some now) grown kept
    → AreTaken (old ++ piece) (Some now) grown kept
header_goes_on version now ops grown old piece rest kept none begins taken =
    let same : spelling_in version ops ++ rest ≡ old ++ piece = ap (λ (xs : List OpView). spelling_in version xs ++ rest) none ∙ sym begins in
    subst (λ (s : List ℕ). AreTaken s (Some now) grown kept) same taken

-- ---- the answer

pub faulty_before : (position : Option Position) (ops : List OpView) (kept piece : List ℕ) (fault : CodecFault) → IsCut position ops kept → TellsKept (kept_fault position kept) fault
    → IsFeedOutcome (bytes_of position ops kept) piece (bytes_of position ops kept) (Err fault)
faulty_before position ops kept piece (Malformed frame cause) cut told = (inl refl, (kept_told position ops kept frame cause cut told.0, told.1))
faulty_before position ops kept piece Memory cut told = absurd told

pub taken_sound : (old piece : List ℕ) (position : Option Position) (ops : List OpView) (kept : List ℕ) → AreTaken (old ++ piece) position ops kept → IsMissing (kept_fault position kept)
    → IsFeedOutcome old piece (bytes_of position ops kept) (Ok tt)
taken_sound old piece position ops kept h missing =
    let shown = kept_missing position ops kept h.cut missing in
    let s = h.stopped in
    let truncated : s.cause ≡ Truncated = let e = sym s.is_shown ∙ shown in cc in
    let whole : bytes_of position ops kept ≡ old ++ piece = sym (s.begins ∙ ap (λ (m : List ℕ). bytes_of position ops kept ++ m) (s.all truncated) ∙ append-nil (bytes_of position ops kept)) in
    (whole, sound_kept_so position ops kept h.cut shown)

pub taken_faulty : (old piece : List ℕ) (position : Option Position) (ops : List OpView) (kept : List ℕ) (fault : CodecFault) → IsSound old → AreTaken (old ++ piece) position ops kept
    → TellsKept (kept_fault position kept) fault → IsFeedOutcome old piece (bytes_of position ops kept) (Err fault)
taken_faulty old piece position ops kept (Malformed frame cause) sound h told =
    let last : IsLasting (bytes_of position ops kept) frame cause = (kept_told position ops kept frame cause h.cut told.0, told.1) in
    (inr (sound, record { more = h.stopped.more; begins = h.stopped.begins; up_to = inr (frame, cause, last) }), last)
taken_faulty old piece position ops kept Memory sound h told = absurd told

-- what the kept bytes are judged to show is what a feed answers
pub answered : (old piece : List ℕ) (position : Option Position) (ops : List OpView) (kept : List ℕ) (r : Result (Unit {0}) CodecFault) → IsSound old → AreTaken (old ++ piece) position ops kept
    → OnOk r (IsMissing (kept_fault position kept)) → IfErr r (TellsKept (kept_fault position kept)) → IsFeedOutcome old piece (bytes_of position ops kept) r
answered old piece position ops kept (Ok done) sound h ok err = taken_sound old piece position ops kept h ok
answered old piece position ops kept (Err fault) sound h ok err = taken_faulty old piece position ops kept fault sound h err

-- ---- a file that is fed whole

pub whole_fed : (bytes old new : List ℕ) → old ≡ [] → IsFeedOutcome old bytes new (Ok tt) → new ≡ bytes
whole_fed bytes old new none h = h.0 ∙ ap (λ (s : List ℕ). s ++ bytes) none

pub whole_told : (bytes old new : List ℕ) (fault : CodecFault) → old ≡ [] → IsFeedOutcome old bytes new (Err fault) → TellsFault bytes fault
whole_told bytes old new (Malformed frame cause) none h = subst (λ (s : List ℕ). IsFault (s ++ bytes) frame cause) none (piece_faulty old old bytes new frame cause (all_fed old old refl) h).1.0
whole_told bytes old new Memory none h = tt

-- ---- where a whole frame is kept

pub kept_none : (at : Position) (kept : List ℕ) (f : Frame) (rest : List ℕ) → TakesFrame at kept f rest → kept_fault (Some at) kept ≡ None
kept_none at [] f rest h = refl
kept_none at (b ∷ kept) f rest h =
    let none : cause_at at.version at.tip (b ∷ kept) ≡ None = ap (cause_at at.version at.tip) h.begins.spelled ∙ cause_at-frame at.version at.tip f rest h.begins.is_frame h.alone in
    ap (with_frame (at.frames + 1)) none

-- ---- how many frames there are

pub position_counted : (position : Option Position) (ops : List OpView) (kept : List ℕ) (most : ℕ) → IsCut position ops kept → length ops < most → IfSome position (λ at. at.frames < most)
position_counted None ops kept most cut few = tt
position_counted (Some at) ops kept most cut few = omega (arith, few_frames at ops cut.1, few)

-- one more frame was read
pub more_read : (v : Version) (at next : Position) (before ops new : List OpView) (bytes rest after : List ℕ) → at.version ≡ v → spelling_in v before ++ bytes ≡ spelling_in v ops ++ rest → IsBehind at ops
    → TakesIn at next ops new rest after → spelling_in v before ++ bytes ≡ spelling_in v new ++ after
more_read v at next before ops new bytes rest after version read is h =
    read ∙ ap (λ (u : Version). spelling_in u ops ++ rest) (sym version) ∙ taken_spelled at next ops new rest after h is ∙ ap (λ (u : Version). spelling_in u new ++ after) version

-- the piece completes no frame, and nothing but what is kept has changed
pub frame_left : (at now : Position) (ops same : List OpView) (old piece kept : List ℕ) → AllByRecursion IsWellFormed ops → IsBehind at ops → IsStopped (old ++ piece) kept (cause_at at.version at.tip kept)
    → (same ≡ ops) × (now ≡ at) → AreTaken ((spelling_in at.version ops ++ old) ++ piece) (Some now) same kept
frame_left at now ops same old piece kept ok is h left =
    subst (λ (p : Position). AreTaken ((spelling_in at.version ops ++ old) ++ piece) (Some p) same kept) (sym left.1) (frame_stays at ops same old piece kept ok is (h, left.0))

-- ---- what has grown, and answers

pub grown_twice : (first ops new : List OpView) → take (length first) ops ≡ first → take (length ops) new ≡ ops → take (length first) new ≡ first
grown_twice first ops new e h =
    let longer : length first ≤ length ops = omega (arith, length-take (length first) ops, ap (λ (xs : List OpView). length xs) e) in
    sym (take-take (length first) (length ops) new longer) ∙ ap (λ (xs : List OpView). take (length first) xs) h ∙ e

pub if_none : {A : Type 0} (o : Option A) (P : Type 0) → o ≡ None → IfNone o P → P
if_none None P e h = h
if_none (Some x) P e h = absurd cc

pub if_some : {A : Type 0} (o : Option A) (P : A → Type 0) (x : A) → o ≡ Some x → IfSome o P → P x
if_some o P x e h = subst (λ (p : Option _). IfSome p P) e h
