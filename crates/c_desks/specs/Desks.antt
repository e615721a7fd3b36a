-- What the calls do to a desk.
use Rattle.std.specs.Prelude.{◌≡◌, ◌⊎◌, ◌<◌, ◌≤◌, ◌+◌, ◌-◌, ◌*◌, ◌^◌, ◌++◌, ℕ, List, [], ◌∷◌, length, take, drop, slice_get, unwrap_or, Some, Result, Ok, Err}
use Rattle.std.specs.Str.{chars, IsUtf8}
use Rattle.core.specs.Char.{OutOfScalarRange}
use Rattle.bg_types.specs.Identifier.{Identifier}
use Rattle.bg_types.specs.OperationSet.{OperationSet, with_operation, next, size}
use Rattle.bg_types.specs.declared.op.OpView.{OpView}
use Rattle.rga_tree.specs.Attached.{IsAttached}
use Rattle.rga_tree.specs.TextOf.{text, visible, visible_ids, visible_before}
use Rattle.op_codec.specs.declared.fault.CodecFault.{CodecFault}
use Rattle.op_codec.specs.Code.{frame_number}
use Rattle.op_codec.specs.Fault.{TellsFault}
use Rattle.op_codec.specs.declared.position.Version.TheVariants.{Two}
use Rattle.op_codec.specs.Spelling.{Spells, SpellsIn, spelling}
use Rattle.pending_ops.specs.Waiting.{ListsOnce}
use Rattle.desk_replica.specs.Desk.{Desk, fresh}
use Rattle.desk_replica.specs.Typing.{typed, insertion, IsTypedAt, IsTypeRefusal, IsTypeRefused}
use Rattle.desk_replica.specs.Replacement.{deletions, replacement, IsReplaceRefusal, IsReplaceRefused}
use Rattle.desk_replica.specs.Merging.{with_operations, IsMerge}
use Rattle.desk_replica.specs.Listed.{listed}
use Rattle.desk_replica.specs.declared.answer.TakeFault.{TakeFault}
use Rattle.desk_replica.specs.declared.answer.TypeFault.{TypeFault}
use Rattle.desk_replica.specs.declared.answer.TypeFault.TheVariants.{CounterSpent, Full, Memory}
use Rattle.desk_replica.specs.Taking.{AreTaken, IsRefusedNext}
use Rattle.c_answers.specs.Copying.{IsCopied, IsLeft}
use Rattle.c_desks.specs.Faults.{take_number, type_number, message_number}
use Rattle.c_desks.specs.declared.numbers.IdentifierNumbers.{IdentifierNumbers}
use Rattle.c_desks.specs.declared.numbers.Taken.{Taken}
use Rattle.c_desks.specs.Numbers.{IsSite, no_identifier, none_taken}

-- ---- typing and erasing

-- no more operations that were paid for are gone than are new
abbrev pub KeepsSpare : (old new : Desk) → Type 0
KeepsSpare old new = size old.set + old.spare ≤ size new.set + new.spare

-- a character was typed at a place, where nothing stood in its way: the text has it there, and the message is the file of the
-- insertion that the desk made
pub record IsTyped (desk : Desk) (place ch : ℕ) (new : Desk) (before after : List ℕ) (told : ℕ) : Type 0 where
  pub set : new.set ≡ with_operation desk.set (insertion (typed desk.set desk.site place ch))
  pub text : IsTypedAt desk.set new.set place (typed desk.set desk.site place ch)
  pub accepted : (fault : TypeFault) → ¬ (IsTypeRefusal desk.set fault)
  pub site : new.site ≡ desk.site
  pub spare : KeepsSpare desk new
  pub message : IsCopied (spelling (insertion (typed desk.set desk.site place ch) ∷ [])) before after told 0

-- characters were replaced, where nothing stood in their way: the text has the others where they began, and the message is the
-- file of the deletions and of the insertions that the desk made
pub record IsReplaced (desk : Desk) (from to : ℕ) (typed : List ℕ) (new : Desk) (before after : List ℕ) (told : ℕ) : Type 0 where
  pub order : from ≤ to
  pub within : to ≤ length (visible desk.set)
  pub set : new.set ≡ with_operations desk.set (replacement desk.set desk.site from (to - from) typed)
  pub replaced : text new.set ≡ take from (text desk.set) ++ (typed ++ drop to (text desk.set))
  pub accepted : (fault : TypeFault) → ¬ (IsReplaceRefusal desk.set (to - from) (length typed) fault)
  pub site : new.site ≡ desk.site
  pub spare : KeepsSpare desk new
  pub message : IsCopied (spelling (replacement desk.set desk.site from (to - from) typed)) before after told 0

-- the characters from one place up to another were erased: the text is without them, and the message is the file of their
-- deletions
pub record IsErased (desk : Desk) (from to : ℕ) (new : Desk) (before after : List ℕ) (told : ℕ) : Type 0 where
  pub order : from ≤ to
  pub within : to ≤ length (visible desk.set)
  pub set : new.set ≡ with_operations desk.set (deletions desk.set from (to - from))
  pub erased : text new.set ≡ take from (text desk.set) ++ drop to (text desk.set)
  pub accepted : size desk.set + (to - from) ≤ 1_000_000
  pub site : new.site ≡ desk.site
  pub spare : KeepsSpare desk new
  pub message : IsCopied (spelling (deletions desk.set from (to - from))) before after told 0

-- how many bytes the message of m deletions and n insertions has
abbrev pub replaced_size : (m n : ℕ) → ℕ
replaced_size m n = 5 + 9 * m + 19 * n

-- a desk and a buffer of so many bytes have room for n characters in the place of those from one place up to another
pub record HasRoomFor (desk : Desk) (from to n room : ℕ) : Type 0 where
  pub order : from ≤ to
  pub within : to ≤ length (visible desk.set)
  pub limited : size desk.set + ((to - from) + n) ≤ 1_000_000
  pub fits : replaced_size (to - from) n ≤ room

-- no message was written for this fault: only for a short buffer is the size of one written
abbrev pub IsUnwritten : (before after : List ℕ) → (told answer : ℕ) → Type 0
IsUnwritten before after told answer = (after ≡ before) × ((answer ≡ 102 → ⊥) → told ≡ 0)

-- why a desk typed no character, with the fault's number. Lack of memory comes after the others, and not where an operation is
-- spare
abbrev pub IsUntyped : Desk → (answer : ℕ) → Type 0
IsUntyped desk answer =
    ((answer ≡ 9) × (desk.spare ≡ 0) × IsTypeRefused desk.set Memory)
    ⊎ (((answer ≡ 203) × IsTypeRefusal desk.set CounterSpent)
    ⊎ ((answer ≡ 202) × IsTypeRefusal desk.set Full))

-- what C asked for is a character and a place, and a buffer of so many bytes has room for the message
pub record MayType (desk : Desk) (place ch room : ℕ) : Type 0 where
  pub character : ¬ (OutOfScalarRange ch)
  pub within : place ≤ length (visible desk.set)
  pub fits : 24 ≤ room

-- why no character was typed for C: that, or what it asked for is none
abbrev pub IsRefusedTyping : Desk → (place ch room told answer : ℕ) → Type 0
IsRefusedTyping desk place ch room told answer =
    (MayType desk place ch room × IsUntyped desk answer)
    ⊎ (((answer ≡ 111) × OutOfScalarRange ch)
    ⊎ (((answer ≡ 107) × (length (visible desk.set) < place))
    ⊎ ((answer ≡ 102) × (room < 24) × (told ≡ 24))))

-- why a desk erased no character at a place
abbrev pub IsUnerased : Desk → (answer : ℕ) → Type 0
IsUnerased desk answer = (answer ≡ 202) × (size desk.set ≡ 1_000_000)

-- why a desk erased nothing. Of one character it is never lack of memory
abbrev pub IsRefusedErasing : Desk → (from to room told answer : ℕ) → Type 0
IsRefusedErasing desk from to room told answer =
    let m = to - from in
    ((answer ≡ 9) × (m ≡ 1 → ⊥) × HasRoomFor desk from to 0 room)
    ⊎ (((answer ≡ 107) × ((to < from) ⊎ (length (visible desk.set) < to)))
    ⊎ (((answer ≡ 102) × (room < replaced_size m 0) × (told ≡ replaced_size m 0))
    ⊎ ((answer ≡ 202) × (1_000_000 < size desk.set + m))))

-- lack of memory may refuse to put n characters in the place of m: of one it can only where it is typed, a counter is left, and
-- no operation is spare
abbrev pub MayTakeMemory : Desk → (m n : ℕ) → Type 0
MayTakeMemory desk m n = m + n ≡ 1 → (n ≡ 1) × (desk.spare ≡ 0) × (next desk.set < 2 ^ 32)

-- why a desk put no n characters in the place of others. Of more than one, memory for the message is asked for before the
-- counters are counted
abbrev pub IsRefusedExchange : Desk → (from to n room told answer : ℕ) → Type 0
IsRefusedExchange desk from to n room told answer =
    let m = to - from in
    ((answer ≡ 9) × MayTakeMemory desk m n × HasRoomFor desk from to n room)
    ⊎ (((answer ≡ 107) × ((to < from) ⊎ (length (visible desk.set) < to)))
    ⊎ (((answer ≡ 102) × (room < replaced_size m n) × (told ≡ replaced_size m n))
    ⊎ (((answer ≡ 203) × IsReplaceRefusal desk.set m n CounterSpent)
    ⊎ ((answer ≡ 202) × (1_000_000 < size desk.set + (m + n))))))

-- why the core put no n characters in the place of m, by its fault's number. Lack of memory comes after the others
abbrev pub IsUnreplaced : Desk → (m n answer : ℕ) → Type 0
IsUnreplaced desk m n answer = (fault : TypeFault) × IsReplaceRefused desk.set m n fault × (answer ≡ type_number fault)

-- why a desk replaced nothing by the bytes of a text
abbrev pub IsRefusedReplacing : Desk → (from to : ℕ) (bytes : List ℕ) (room told answer : ℕ) → Type 0
IsRefusedReplacing desk from to bytes room told answer =
    ((answer ≡ 103) × (¬ (IsUtf8 bytes))) ⊎ (IsUtf8 bytes × IsRefusedExchange desk from to (length (chars bytes)) room told answer)

-- ---- taking and merging

-- a desk took the first operations of a list, as many as the answer says: all, or those before the one that it refused
pub record IsTakenUpTo (desk : Desk) (ops : List OpView) (new : Desk) (told answer : ℕ) : Type 0 where
  pub taken : AreTaken desk ops told new
  pub all : answer ≡ 0 → told ≡ length ops
  pub refused : (answer ≡ 0 → ⊥) → (fault : TakeFault) × IsRefusedNext new ops told fault × (answer ≡ take_number fault)

-- a message is longer than any that is read
abbrev pub IsTooLong : List ℕ → Type 0
IsTooLong bytes = 67_108_864 < length bytes

-- a message was not read: its bytes are faulty, or there was no memory for its operations, or they are too many
abbrev pub IsUnread : (bytes : List ℕ) → Taken → (answer : ℕ) → Type 0
IsUnread bytes told answer =
    ((fault : CodecFault) × TellsFault bytes fault × (answer ≡ message_number fault) × (told ≡ none_taken (unwrap_or (frame_number fault) 0)))
    ⊎ ((answer ≡ 116) × IsTooLong bytes × (told ≡ none_taken 0))

-- a message was taken: its bytes spell operations, taken in order as far as the answer says; or it was not read, and the desk
-- is as it was
abbrev pub IsMessageTaken : Desk → (bytes : List ℕ) → Desk → Taken → (answer : ℕ) → Type 0
IsMessageTaken desk bytes new told answer =
    ((ops : List OpView) × Spells bytes ops × (told.operations ≡ length ops) × (told.frame ≡ 0) × IsTakenUpTo desk ops new told.taken answer)
    ⊎ ((new ≡ desk) × IsUnread bytes told answer)

-- why a desk of a site was not made of a file
abbrev pub IsRefusedOpening : (site : ℕ) → (file : List ℕ) → Taken → (answer : ℕ) → Type 0
IsRefusedOpening site file told answer =
    ((answer ≡ 112) × (¬ (IsSite site)) × (told ≡ none_taken 0))
    ⊎ (((answer ≡ 9) × IsSite site × (told ≡ none_taken 0))
    ⊎ ((left : Desk) × IsMessageTaken (fresh site) file left told answer))

-- what a merge answers
abbrev pub merge_number : Result ℕ TakeFault → ℕ
merge_number (Ok count) = 0
merge_number (Err fault) = take_number fault

-- a desk met another one, as the core's `merge` says
abbrev pub IsMergedWith : Desk → Desk → Desk → (answer : ℕ) → Type 0
IsMergedWith desk other new answer = (met : Result ℕ TakeFault) × IsMerge desk other new met × (answer ≡ merge_number met)

-- ---- answering

-- the identifier at a place was written, or there is no such place
abbrev pub IsIdentifierWritten : OperationSet → (place : ℕ) → (told : IdentifierNumbers) → (answer : ℕ) → Type 0
IsIdentifierWritten s place told answer =
    ((answer ≡ 0) × (slice_get (visible_ids s) place ≡ Some (record { counter = told.counter; site = told.site })))
    ⊎ ((answer ≡ 107) × (length (visible s) ≤ place) × (told ≡ no_identifier))

-- these numbers are an identifier's
abbrev pub IsIdentifier : IdentifierNumbers → Type 0
IsIdentifier id = (0 < id.counter) × IsSite id.site

-- the place of an identifier was written; or it has none, or is none
abbrev pub IsPlaceWritten : OperationSet → IdentifierNumbers → (told answer : ℕ) → Type 0
IsPlaceWritten s id told answer =
    let it : Identifier = record { counter = id.counter; site = id.site } in
    ((answer ≡ 0) × IsAttached s.ins it × (told ≡ visible_before s it))
    ⊎ (((answer ≡ 114) × IsIdentifier id × (¬ (IsAttached s.ins it)) × (told ≡ 0))
    ⊎ ((answer ≡ 113) × (¬ (IsIdentifier id)) × (told ≡ 0)))

-- the file written, in version 2, spells a list that has each operation of the desk once; or there was no memory to make it
abbrev pub IsSaved : Desk → (before after : List ℕ) → (told answer : ℕ) → Type 0
IsSaved desk before after told answer =
    (ListsOnce desk.set (listed desk) × ((file : List ℕ) × SpellsIn Two file (listed desk) × IsCopied file before after told answer))
    ⊎ ((answer ≡ 9) × IsLeft before after told)
