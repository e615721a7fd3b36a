-- One operation file that is fed in pieces, up to the limit.
use Rattle.std.proofs.Common.{◌≡◌, ◌≢◌, ◌<◌, ◌≤◌, ◌⊎◌, ℕ, ◌+◌, ◌-◌, ◌^◌, true, false, Bool, List, [], ◌++◌, Option, Some, None, inl, inr, take, drop, length, refl, sym, ap, subst, ◌∙◌, arith, append_assoc, append-nil}
use Rattle.std.specs.Prelude.{Result, Ok, Err, OnOk, IfErr, IfSome, min}
use Rattle.std.specs.Io.KnownBytes.{Consumes, Keeps, IsAtEnd}
use Rattle.std.proofs.KnownBytes.{Consumes-nil, Consumes-trans, Consumes-kept}
use Rattle.std.proofs.Math.Seq.{take-append-add}
use Rattle.std.proofs.lemmas.List.{take_all, length-append, length-take, take-append-drop}
use Rattle.bg_types.specs.declared.op.OpView.{OpView}
use Rattle.op_codec.specs.declared.fault.Cause.{Cause}
use Rattle.op_codec.specs.declared.fault.Cause.TheVariants.{Truncated}
use Rattle.op_codec.specs.declared.fault.CodecFault.{CodecFault}
use Rattle.op_codec.specs.declared.fault.CodecFault.TheVariants as codec
use Rattle.op_codec.specs.declared.position.Position.{Position}
use Rattle.op_codec.specs.Source.{greatest_piece}
use Rattle.op_codec.specs.Fault.{IsFault, TellsFault}
use Rattle.op_codec.specs.Feed.{IsSound, IsLasting, IsFed, IsFeedOutcome, Standing, StandsAfter, added}
use Rattle.desk_files.specs.declared.run_fault.RunFault.{RunFault}
use Rattle.desk_files.specs.declared.run_fault.RunFault.TheVariants.{Memory, ReadFailed}
use Rattle.desk_files.specs.Reading.{limit, IsReadAs, IsSoundTo, Flaw, malformed, too_long, IsFlawed, IsFlawedBy, flaw_fault}
use Rattle.desk_files.specs.Readers.{Tells, IsAsked, IsToldFile, IsUnreadFile, is_flawed, is_broken, lacks_memory}
use Rattle.desk_files.specs.Cause.{file_fault_of}

-- ---- what is fed

-- nothing shows no fault but a missing byte
pub nothing_sound : IsSound []
nothing_sound n cause (inl h) = let e = h.1 in cc
nothing_sound n cause (inr f) = let e = f.before in absurd cc

take-append-ge : (n : ℕ) (xs ys : List ℕ) → length xs ≤ n → take n (xs ++ ys) ≡ xs ++ take (n - length xs) ys
take-append-ge n xs ys le = let sum : n ≡ length xs + (n - length xs) = omega (arith, le) in ap (λ k. take k (xs ++ ys)) sum ∙ take-append-add xs ys (n - length xs)

module _ (faulty : (all old piece new : List ℕ) (frame : ℕ) (cause : Cause) → IsFed all old → IsFeedOutcome old piece new (Err (codec.Malformed frame cause)) → IsFed (all ++ piece) new × IsLasting (all ++ piece) frame cause)
    (stable : (bytes more : List ℕ) (frame : ℕ) (cause : Cause) → IsFault bytes frame cause → cause ≢ Truncated → IsFault (bytes ++ more) frame cause)
    (old piece new : List ℕ) (left taken number : ℕ) (sum : length old + left ≡ limit) (taken_is : taken ≡ min (length piece) left) where
  abbrev first : List ℕ
  first = old ++ take taken piece

  long : length first ≤ limit
  long = let size = length-append old (take taken piece) in let part = length-take taken piece in omega (arith, size, part, sum, taken_is)

  split : (rest : List ℕ) → (old ++ piece) ++ rest ≡ first ++ (drop taken piece ++ rest)
  split rest =
      ap (λ (p : List ℕ). (old ++ p) ++ rest) (sym (take-append-drop taken piece))
      ∙ ap (λ (p : List ℕ). p ++ rest) (sym (append_assoc old (take taken piece) (drop taken piece)))
      ∙ append_assoc first (drop taken piece) rest

  begins : (rest : List ℕ) → take limit ((old ++ piece) ++ rest) ≡ first ++ take (limit - length first) (drop taken piece ++ rest)
  begins rest = ap (take limit) (split rest) ∙ take-append-ge limit first (drop taken piece ++ rest) long

  shown : (frame : ℕ) (cause : Cause) → IsFeedOutcome old (take taken piece) new (Err (codec.Malformed frame cause)) → IsFlawedBy (old ++ piece) number (file_fault_of number (codec.Malformed frame cause))
  shown frame cause h =
      let lasting : IsLasting first frame cause = (faulty old old (take taken piece) new frame cause (record { more = []; begins = sym (append-nil old); up_to = inl refl }) h).1 in
      record {
        flaw = malformed frame cause;
        is = refl;
        whatever = λ rest. (
          subst (λ (b : List ℕ). IsFault b frame cause) (sym (begins rest)) (stable first (take (limit - length first) (drop taken piece ++ rest)) frame cause lasting.0 lasting.1),
          λ longer. lasting.1,
        );
      }

  -- the fault of a piece
  pub piece_faulty : (fault : CodecFault) → IsFeedOutcome old (take taken piece) new (Err fault) → (file_fault_of number fault ≡ Memory) ⊎ IsFlawedBy (old ++ piece) number (file_fault_of number fault)
  piece_faulty codec.Memory h = inl refl
  piece_faulty (codec.Malformed frame cause) h = inr (shown frame cause h)

  full : taken < length piece → limit - length first ≡ 0
  full lt = let size = length-append old (take taken piece) in let part = length-take taken piece in omega (arith, size, part, sum, taken_is, lt)

  -- a piece goes past the limit
  pub piece_too_long : IsFeedOutcome old (take taken piece) new (Ok tt) → taken < length piece → IsFlawedBy (old ++ piece) number (flaw_fault number too_long)
  piece_too_long h lt = record {
    flaw = too_long;
    is = refl;
    whatever = λ rest. (
      (let size = length-append (old ++ piece) rest in let part = length-append old piece in omega (arith, size, part, sum, taken_is, lt)),
      subst IsSound (h.0 ∙ sym (begins rest ∙ ap (λ k. first ++ take k (drop taken piece ++ rest)) (full lt) ∙ append-nil first)) h.1,
    );
  }

  -- a piece is fed whole
  module _ (h : IsFeedOutcome old (take taken piece) new (Ok tt)) (all : length piece ≤ taken) where
    pub piece_fed : new ≡ old ++ piece
    piece_fed = h.0 ∙ ap (λ (p : List ℕ). old ++ p) (take_all taken piece all)

    pub piece_sound : IsSound (old ++ piece)
    piece_sound = subst IsSound piece_fed h.1

    pub piece_within : length piece ≤ left
    piece_within = omega (arith, all, taken_is)

-- ---- the end of a file

-- a file that was fed whole has a fault
pub whole_faulty : (file : List ℕ) (n : ℕ) (fault : CodecFault) → length file ≤ limit → TellsFault file fault → fault ≢ codec.Memory → (flaw : Flaw) × (file_fault_of n fault ≡ flaw_fault n flaw) × IsFlawed file flaw
whole_faulty file n codec.Memory within h other = absurd (other refl)
whole_faulty file n (codec.Malformed frame cause) within h other =
    (malformed frame cause, refl, (subst (λ (b : List ℕ). IsFault b frame cause) (sym (take_all limit file within)) h, λ longer. absurd (omega (arith, within, longer))))

-- ---- what the reader tells

tells_all : (a b : Option (List ℕ)) (bs : List ℕ) → Consumes a b bs → IsAtEnd b → Tells a bs
tells_all None b bs h end = tt
tells_all (Some xs) None bs h end = absurd h
tells_all (Some xs) (Some ys) bs h end = sym (h ∙ ap (λ (l : List ℕ). bs ++ l) end ∙ append-nil bs)

tells_some : (a b : Option (List ℕ)) (bs : List ℕ) → Consumes a b bs → (rest : List ℕ) × Tells a (bs ++ rest)
tells_some None b bs h = ([], tt)
tells_some (Some xs) None bs h = absurd h
tells_some (Some xs) (Some ys) bs h = (ys, sym h)

-- the reader gave these bytes so far
module _ (start now : Option (List ℕ)) (given : List ℕ) (consumed : Consumes start now given) where
  -- and then its end
  module _ (end : Option (List ℕ)) (more : List ℕ) (nothing : more ≡ []) (last : Consumes now end more) (at_end : IsAtEnd end) where
    told : Tells start given
    told = tells_all start end given (subst (Consumes start end) (ap (λ (l : List ℕ). given ++ l) nothing ∙ append-nil given) (Consumes-trans start now end given more consumed last)) at_end

    pub told_file : (ops : List OpView) → IsReadAs given ops → IsToldFile start ops
    told_file ops read = record { file = given; told = told; read = read }

    pub flawed_end : (n : ℕ) (failed : Bool) (fault : RunFault) → failed ≡ false → (flaw : Flaw) × (fault ≡ flaw_fault n flaw) × IsFlawed given flaw → IsUnreadFile n start end failed fault
    flawed_end n failed fault works h = is_flawed h.0 h.1 works (record { file = given; told = told; flawed = h.2 })

    pub flawed_ends : {A : Type 0} (n : ℕ) (failed : Bool) (r : Result A RunFault) → failed ≡ false → IfErr r (λ fault. (flaw : Flaw) × (fault ≡ flaw_fault n flaw) × IsFlawed given flaw) → IfErr r (IsUnreadFile n start end failed)
    flawed_ends n failed (Ok ops) works h = tt
    flawed_ends n failed (Err fault) works h = flawed_end n failed fault works h

  -- and then a piece that is not fed
  pub flawed_piece : (then : Option (List ℕ)) (piece : List ℕ) (n : ℕ) (failed : Bool) (fault : RunFault) → failed ≡ false → Consumes now then piece → (fault ≡ Memory) ⊎ IsFlawedBy (given ++ piece) n fault
      → IsUnreadFile n start then failed fault
  flawed_piece then piece n failed fault works more (inl lacks) = lacks_memory lacks works
  flawed_piece then piece n failed fault works more (inr h) =
      let some = tells_some start then (given ++ piece) (Consumes-trans start now then given piece consumed more) in
      is_flawed h.flaw h.is works (record { file = (given ++ piece) ++ some.0; told = some.1; flawed = h.whatever some.0 })

  -- and then it failed
  pub broken : (end : Option (List ℕ)) (n : ℕ) (failed : Bool) → failed ≡ true → Keeps now end → length given ≤ limit → IsSound given → IsUnreadFile n start end failed (ReadFailed n)
  broken end n failed broke nothing within sound = is_broken refl broke (record { given = given; consumed = Consumes-kept start now end given consumed nothing; within = within; faultless = sound })

-- ---- a stream that reads the file of a reader

-- the reader gave these bytes so far, and a stream stands after them
pub record IsReadTo (start now : Option (List ℕ)) (stream : Standing) (left : ℕ) (ops : List OpView) : Type 0 where
  pub bytes : List ℕ
  pub given : Consumes start now bytes
  pub so : IsSoundTo bytes left
  pub stands : StandsAfter stream bytes ops

pub read_none : (start : Option (List ℕ)) (stream : Standing) → StandsAfter stream [] [] → IsReadTo start start stream limit []
read_none start stream stands = record { bytes = []; given = Consumes-nil start; so = record { sum = refl; sound = nothing_sound }; stands = stands }

few_so : (position : Option Position) (most k : ℕ) → IfSome position (λ at. at.frames ≤ most) → most + k < 2 ^ 64 - 2 → IfSome position (λ at. at.frames + k < 2 ^ 64 - 2)
few_so None most k h le = tt
few_so (Some at) most k h le = omega (arith, h, le)

pub few_less : (position : Option Position) (j k : ℕ) → j ≤ k → IfSome position (λ at. at.frames + k < 2 ^ 64 - 2) → IfSome position (λ at. at.frames + j < 2 ^ 64 - 2)
few_less None j k le h = tt
few_less (Some at) j k le h = omega (arith, le, h)

few_end : (position : Option Position) (most : ℕ) → IfSome position (λ at. at.frames ≤ most) → most < 2 ^ 64 - 1 → IfSome position (λ at. at.frames < 2 ^ 64 - 1)
few_end None most h le = tt
few_end (Some at) most h le = omega (arith, h, le)

module _ (start now : Option (List ℕ)) (stream : Standing) (left : ℕ) (ops : List OpView) (h : IsReadTo start now stream left ops) where
  pub read_few : (k : ℕ) → k ≤ 4_096 → IfSome stream.position (λ at. at.frames + k < 2 ^ 64 - 2)
  read_few k le = let sum = h.so.sum in few_so stream.position (length h.bytes) k h.stands.few (omega (arith, sum, le))

  pub end_few : IfSome stream.position (λ at. at.frames < 2 ^ 64 - 1)
  end_few = let sum = h.so.sum in few_end stream.position (length h.bytes) h.stands.few (omega (arith, sum))

  pub end_within : length h.bytes ≤ limit
  end_within = let sum = h.so.sum in omega (arith, sum)

  -- one more piece was fed
  pub read_more : (then : Option (List ℕ)) (new : Standing) (piece : List ℕ) (room : ℕ) (all : List OpView) → Consumes now then piece → room + length piece ≡ left → StandsAfter new (h.bytes ++ piece) all → IsSound (h.bytes ++ piece)
      → IsReadTo start then new room all
  read_more then new piece room all gave part stands sound = record {
    bytes = h.bytes ++ piece;
    given = Consumes-trans start now then h.bytes piece h.given gave;
    so = record { sum = (let size = length-append h.bytes piece in let sum = h.so.sum in omega (arith, size, sum, part)); sound = sound };
    stands = stands;
  }

  -- and then the reader ends
  module _ (end : Option (List ℕ)) (more : List ℕ) (nothing : more ≡ []) (last : Consumes now end more) (at_end : IsAtEnd end) where
    pub read_told : IsReadAs h.bytes ops → IsToldFile start ops
    read_told = told_file start now h.bytes h.given end more nothing last at_end ops

    pub read_flawed : (n : ℕ) (failed : Bool) (fault : RunFault) → failed ≡ false → (flaw : Flaw) × (fault ≡ flaw_fault n flaw) × IsFlawed h.bytes flaw → IsUnreadFile n start end failed fault
    read_flawed = flawed_end start now h.bytes h.given end more nothing last at_end

    pub read_ended : {A : Type 0} (n : ℕ) (failed : Bool) (r : Result A RunFault) → failed ≡ false → IfErr r (λ fault. (flaw : Flaw) × (fault ≡ flaw_fault n flaw) × IsFlawed h.bytes flaw) → IfErr r (IsUnreadFile n start end failed)
    read_ended = flawed_ends start now h.bytes h.given end more nothing last at_end

  -- and then a piece is not fed
  pub read_stopped : (then : Option (List ℕ)) (piece : List ℕ) (n : ℕ) (failed : Bool) (fault : RunFault) → failed ≡ false → Consumes now then piece → (fault ≡ Memory) ⊎ IsFlawedBy (h.bytes ++ piece) n fault
      → IsUnreadFile n start then failed fault
  read_stopped = flawed_piece start now h.bytes h.given

  -- and then the reader fails
  pub read_lost : (end : Option (List ℕ)) (n : ℕ) (failed : Bool) → failed ≡ true → Keeps now end → IsUnreadFile n start end failed (ReadFailed n)
  read_lost end n failed broke nothing = broken start now h.bytes h.given end n failed broke nothing end_within h.so.sound

  -- it was asked for one more piece, or for one that it did not give
  pub read_asked : (then : Option (List ℕ)) (piece : List ℕ) → Consumes now then piece → length piece ≤ greatest_piece → IsAsked start then
  read_asked then piece gave one = record { sound = h.bytes; piece = piece; given = Consumes-trans start now then h.bytes piece h.given gave; within = end_within; faultless = h.so.sound; one = one }

  pub lost_asked : (end : Option (List ℕ)) → Keeps now end → IsAsked start end
  lost_asked end nothing = read_asked end [] (Consumes-kept now now end [] (Consumes-nil now) nothing) (omega arith)

-- a reader that was not asked
pub none_asked : (reader : Option (List ℕ)) → IsAsked reader reader
none_asked reader = record { sound = []; piece = []; given = Consumes-nil reader; within = omega arith; faultless = nothing_sound; one = omega arith }

-- ---- what was written

pub added_all : (old new : List OpView) → take (length old) new ≡ old → old ++ added old new ≡ new
added_all old new e = ap (λ (xs : List OpView). xs ++ drop (length old) new) (sym e) ∙ take-append-drop (length old) new

pub on_ok : {E : Type 0} (r : Result (Unit {0}) E) (P Q : Type 0) → (P → Q) → OnOk r P → OnOk r Q
on_ok (Ok done) P Q f h = f h
on_ok (Err e) P Q f h = h
