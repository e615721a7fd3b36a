-- A keystroke puts one character in the place of none, or none in the place of one.
use Rattle.std.proofs.Common.{◌≡◌, inl, inr, ◌≤◌, ◌<◌, ◌+◌, ◌-◌, ◌++◌, ℕ, List, [], ◌∷◌, length, take, drop, sym, ap, ◌∙◌, subst, arith}
use Rattle.bg_types.specs.OperationSet.{OperationSet}
use Rattle.bg_types.specs.declared.op.OpView.{OpView}
use Rattle.rga_tree.specs.TextOf.{text, visible}
use Rattle.op_codec.specs.Spelling.{spelling}
use Rattle.desk_replica.specs.Desk.{Desk}
use Rattle.desk_replica.specs.Merging.{with_operations}
use Rattle.desk_replica.specs.Replacement.{replacement, IsReplaceRefusal}
use Rattle.desk_replica.specs.Typing.{typed, insertion, IsTypeRefusal}
use Rattle.desk_replica.specs.declared.answer.TypeFault.{TypeFault}
use Rattle.desk_replica.specs.declared.answer.TypeFault.TheVariants.{CounterSpent, Full, Memory}
use Rattle.c_answers.specs.Copying.{IsCopied}
use Rattle.c_desks.specs.Desks.{HasRoomFor, IsErased, IsReplaced, IsTyped, IsUntyped, IsUnerased, IsRefusedExchange}
use Rattle.c_desks.specs.Keystrokes.{IsKeystroke}
use Rattle.c_desks.specs.declared.keystroke.Keystroke.TheVariants.{Typed, Erased}
use Rattle.c_desks.proofs.Erased.{erased_exchange}

-- ---- typing

pub typed_place : (desk : Desk) (from to n room : ℕ) → HasRoomFor desk from to n room → from ≤ length (visible desk.set)
typed_place desk from to n room has = omega (arith, has.order, has.within)

pub typed_room : (desk : Desk) (from to ch : ℕ) (chs : List ℕ) (room : ℕ) → HasRoomFor desk from to (length chs) room → IsKeystroke (to - from) chs (Typed ch) → 24 ≤ room
typed_room desk from to ch chs room has key = omega (arith, has.fits, key.0, ap length key.1)

made_one : (s : OperationSet) (site from n ch : ℕ) (chs : List ℕ) → n ≡ 0 → chs ≡ ch ∷ [] → replacement s site from n chs ≡ insertion (typed s site from ch) ∷ []
made_one s site from n ch chs none one = ap (λ k. replacement s site from k chs) none ∙ ap (replacement s site from 0) one

typing_accepted : (desk : Desk) (from to n room : ℕ) → HasRoomFor desk from to n room → n ≡ 1 → ((fault : TypeFault) → ¬ (IsTypeRefusal desk.set fault))
    → (fault : TypeFault) → ¬ (IsReplaceRefusal desk.set (to - from) n fault)
typing_accepted desk from to n room has one accepted CounterSpent refused = accepted CounterSpent (omega (arith, one, refused))
typing_accepted desk from to n room has one accepted Full refused = omega (arith, has.limited, refused.1)
typing_accepted desk from to n room has one accepted Memory refused = refused

pub typed_exchange : (old new : Desk) (from to ch : ℕ) (chs before after : List ℕ) (told : ℕ) → HasRoomFor old from to (length chs) (length before)
    → IsKeystroke (to - from) chs (Typed ch) → IsTyped old from ch new before after told → IsReplaced old from to chs new before after told
typed_exchange old new from to ch chs before after told has key t =
    let made = made_one old.set old.site from (to - from) ch chs key.0 key.1 in
    let same : to ≡ from = omega (arith, key.0, has.order) in
    let others = text old.set in
    record {
      order = has.order;
      within = has.within;
      set = t.set ∙ ap (with_operations old.set) (sym made);
      replaced = t.text.text_is ∙ ap (λ (xs : List ℕ). take from others ++ (xs ++ drop from others)) (sym key.1) ∙ ap (λ k. take from others ++ (chs ++ drop k others)) (sym same);
      accepted = typing_accepted old from to (length chs) (length before) has (ap length key.1) t.accepted;
      site = t.site;
      spare = t.spare;
      message = subst (λ (ops : List OpView). IsCopied (spelling ops) before after told 0) (sym made) t.message;
    }

pub untyped_exchange : (desk : Desk) (from to ch : ℕ) (chs : List ℕ) (room told answer : ℕ) → HasRoomFor desk from to (length chs) room → IsKeystroke (to - from) chs (Typed ch)
    → IsUntyped desk answer → IsRefusedExchange desk from to (length chs) room told answer
untyped_exchange desk from to ch chs room told answer has key (inl memory) = inl (memory.0, (λ _. (ap length key.1, memory.1, memory.2.0)), has)
untyped_exchange desk from to ch chs room told answer has key (inr (inl spent)) = inr (inr (inr (inl (spent.0, omega (arith, ap length key.1, spent.1)))))
untyped_exchange desk from to ch chs room told answer has key (inr (inr full)) = absurd (omega (arith, has.limited, ap length key.1, full.1.1))

-- ---- erasing

pub erased_place : (desk : Desk) (from to n room : ℕ) (chs : List ℕ) → HasRoomFor desk from to n room → IsKeystroke (to - from) chs Erased → from < length (visible desk.set)
erased_place desk from to n room chs has key = omega (arith, has.order, has.within, key.0)

pub erased_room : (desk : Desk) (from to n room : ℕ) (chs : List ℕ) → HasRoomFor desk from to n room → IsKeystroke (to - from) chs Erased → 14 ≤ room
erased_room desk from to n room chs has key = omega (arith, has.fits, key.0)

pub erased_key : (old new : Desk) (from to : ℕ) (chs before after : List ℕ) (told : ℕ) → IsKeystroke (to - from) chs Erased
    → IsErased old from (from + 1) new before after told → IsReplaced old from to chs new before after told
erased_key old new from to chs before after told key e =
    let same : from + 1 ≡ to = omega (arith, key.0) in
    subst (λ (typed : List ℕ). IsReplaced old from to typed new before after told) (sym key.1)
    (erased_exchange old new from to before after told (subst (λ (end : ℕ). IsErased old from end new before after told) same e))

pub unerased_exchange : (desk : Desk) (from to n room told answer : ℕ) (chs : List ℕ) → HasRoomFor desk from to n room → IsKeystroke (to - from) chs Erased
    → IsUnerased desk answer → IsRefusedExchange desk from to n room told answer
unerased_exchange desk from to n room told answer chs has key full = absurd (omega (arith, has.limited, key.0, full.1))
